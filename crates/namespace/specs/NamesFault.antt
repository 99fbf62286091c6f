-- Why a tree over lower names can't be opened.
use Rattle.std.specs.Prelude.{◌≡◌}
use Rattle.answer_model.specs.Count.{Rose}
use Rattle.lower_tree.specs.Held.{HeldNames}
use Rattle.namespace.specs.declared.fault.NamesFault.{NamesFault}
use Rattle.namespace.specs.declared.fault.NamesFault.TheVariants.{Lower, Memory}

-- A call failed, so that the count rose, or memory ran out, and the count stays. The form is handed back.
abbrev pub IsNamesFault : {N U : Type 0} → (N → HeldNames) → HeldNames → U → NamesFault N U → Type 0
IsNamesFault held old form (Lower lower back before after) = (back ≡ form) × (before ≡ old.faults) × (after ≡ (held lower).faults) × Rose before after × ((held lower).told ≡ old.told)
IsNamesFault held old form (Memory lower back) = (back ≡ form) × ((held lower).faults ≡ old.faults) × ((held lower).told ≡ old.told)
