-- How upper and lower names go together.
use Rattle.std.specs.Prelude.{ℕ, ◌≡◌, ◌≤◌, List, Option, Some, None, length, Bool, false, nat_le, ◌&&◌, if◌then◌else◌}
use Rattle.lower_model.specs.Name.{is_name}
use Rattle.tree_model.specs.Names.{is_named}
use Rattle.names_model.specs.declared.limits.TheConstants.{LONGEST_PLAIN_NAME}

-- The longest upper name; the upper name that a lower name stands for, or none; the lower name that an upper name is written as.
pub record NameForm : Type 0 where
  pub longest : ℕ
  pub upper : List ℕ → Option (List ℕ)
  pub written : List ℕ → List ℕ

-- each name stands for itself, other octets for none
abbrev pub plain : NameForm
plain = record { longest = LONGEST_PLAIN_NAME; upper = λ name. if is_name name then Some name else None; written = λ name. name }

-- A name that is not too long is written as this lower name.
abbrev pub IsWritten : NameForm → List ℕ → List ℕ → Type 0
IsWritten form name lower = (length name ≤ form.longest) × (lower ≡ form.written name)

-- whether this upper name is stood for
abbrev pub is_upper : List ℕ → Option (List ℕ) → Bool
is_upper name (Some upper) = is_named name upper
is_upper name None = false

-- the upper name that a foreign entry blocks: the one whose written name its lower name is
abbrev pub blocked_by : NameForm → Option (List ℕ) → List ℕ → Option (List ℕ)
blocked_by form (Some name) lower = if nat_le (length name) form.longest && is_named (form.written name) lower then Some name else None
blocked_by form None lower = None
