-- Which settings a group is made with: an odd size from 1 to 9, and a leader inside it.
use Rattle.std.specs.Prelude.{◌%◌, cond, Some, None, Option, ◌==◌, nat_le, nat_lt}
use Rattle.base.specs.declared.fault.Fault.{Fault}
use Rattle.base.specs.declared.fault.Refusal.TheVariants.{BadSize, BadLeader}
use Rattle.base.specs.declared.fault.Layer.TheVariants.{Group}
use Rattle.base.specs.Faults.{plain}
use Rattle.protocol.specs.declared.setting.Setting.{Setting}

abbrev pub setting_refusal : Setting → Option Fault
setting_refusal k =
    cond (k.size % 2 == 0) (Some (plain BadSize Group))
    (cond (nat_lt 9 k.size) (Some (plain BadSize Group))
    (cond (nat_le k.size k.leader) (Some (plain BadLeader Group)) None))
