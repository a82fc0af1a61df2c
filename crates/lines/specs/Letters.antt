-- The letter of each kind of step, as the byte that writes it.
use Rattle.std.specs.Prelude.{ℕ}

-- W
abbrev pub setting_letter : ℕ
setting_letter = 87

-- P
abbrev pub propose_letter : ℕ
propose_letter = 80

-- R
abbrev pub receive_letter : ℕ
receive_letter = 82

-- H
abbrev pub hear_letter : ℕ
hear_letter = 72

-- N
abbrev pub notice_letter : ℕ
notice_letter = 78

-- Y
abbrev pub sync_letter : ℕ
sync_letter = 89

-- L
abbrev pub change_letter : ℕ
change_letter = 76

-- Q
abbrev pub query_letter : ℕ
query_letter = 81
