-- What a reader and a spelling have to do with each other.
use Rattle.std.proofs.Common.{◌≡◌, Bool, true, false, cond, ℕ, List, Option, Some, None, refl, sym, ap, ◌∙◌}
use Rattle.std.proofs.lemmas.Option.{none-some}
use Rattle.reading_model.specs.Fields.{Reads, ◌>>=◌}

-- What is read is spelled so, and what is spelled so is read.
pub record IsReader {A : Type 0} (read : List ℕ → Option A) (spell : A → List ℕ) (Fits : A → Type 0) : Type 0 where
  pub found : (text : List ℕ) (value : A) → read text ≡ Some value → (text ≡ spell value) × Fits value
  pub again : (value : A) → Fits value → read (spell value) ≡ Some value

-- so a reader's answer is exact
pub reads : {A : Type 0} {read : List ℕ → Option A} {spell : A → List ℕ} {Fits : A → Type 0} → IsReader read spell Fits → (text : List ℕ) (answer : Option A) → answer ≡ read text → Reads spell Fits text answer
reads r text (Some value) e = r.found text value (sym e)
reads {A} {read} r text None e = λ value fits is. none-some value (e ∙ ap read is ∙ r.again value fits)

-- the parts of an answer that is a value
pub bind_some : {A B : Type 0} (o : Option A) (f : A → Option B) (y : B) → (o >>= f) ≡ Some y → (x : A) × (o ≡ Some x) × (f x ≡ Some y)
bind_some None f y e = absurd (none-some y e)
bind_some (Some x) f y e = (x, refl, e)

-- a guarded value is there only where the guard holds
pub guard_some : {A : Type 0} (test : Bool) (o : Option A) (y : A) → cond test o None ≡ Some y → (test ≡ true) × (o ≡ Some y)
guard_some true o y e = (refl, e)
guard_some false o y e = absurd (none-some y e)

pub unless_some : {A : Type 0} (test : Bool) (o : Option A) (y : A) → cond test None o ≡ Some y → (test ≡ false) × (o ≡ Some y)
unless_some true o y e = absurd (none-some y e)
unless_some false o y e = (refl, e)
