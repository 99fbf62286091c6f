-- Reading entries one after the other, as a loop does.
use Rattle.std.proofs.Common.{◌≡◌, ℕ, suc, ◌-◌, ◌+◌, ◌≤◌, ◌<◌, List, [], ◌∷◌, ◌++◌, Ok, Err, refl, sym, ap, ◌∙◌, append_assoc, arith}
use Rattle.std.proofs.lemmas.List.{append-nil}
use Rattle.lower_model.specs.declared.node.LowerNode.{LowerNode}
use Rattle.lower_model.specs.declared.node.OpenDir.{OpenDir}
use Rattle.lower_model.specs.LowerTree.{path_behind}
use Rattle.answer_model.specs.Answer.{◌>>=◌, FailsAs}
use Rattle.image_model.specs.ImageReading.{Field, entry_at, entries_at}
use Rattle.lower_image.specs.declared.error.FieldError.{FieldError}
use Rattle.lower_image.specs.declared.error.FieldError.TheVariants.{Fault, Memory}
use Rattle.lower_image.specs.FieldErrors.{wrong_field, behind}

regroup : (front : List LowerNode) (n : LowerNode) (read : Field (List LowerNode)) → behind front (read >>= λ x. Ok (n ∷ x.0, x.1)) ≡ behind (front ++ n ∷ []) read
regroup front n (Ok x) = ap (λ (ns : List LowerNode). Ok (ns, x.1)) (simp append_assoc)
regroup front n (Err f) = refl

pub goes_on : (front : List LowerNode) (count i number : ℕ) (path : List OpenDir) (octets : List ℕ) (n : LowerNode) (level : ℕ) (after : List ℕ) (total : Field (List LowerNode)) → i < count
    → entry_at path octets ≡ Ok (record { node = n; level = level }, after)
    → behind front (entries_at (count - i) path number octets) ≡ total
    → behind (front ++ n ∷ []) (entries_at (count - (i + 1)) (path_behind path level number n) (number + 1) after) ≡ total
unfolding entries_at
goes_on front count i number path octets n level after total lt h so_far =
    let k : count - i ≡ suc (count - (i + 1)) = omega arith in
    let one : behind front (entries_at (count - i) path number octets) ≡ behind (front ++ n ∷ []) (entries_at (count - (i + 1)) (path_behind path level number n) (number + 1) after) =
    rw (k, h) (regroup front n (entries_at (count - (i + 1)) (path_behind path level number n) (number + 1) after)) in
    sym one ∙ so_far

pub stops : (e : FieldError) (front : List LowerNode) (count i number : ℕ) (path : List OpenDir) (octets : List ℕ) (total : Field (List LowerNode)) → i < count → FailsAs (wrong_field e) (Unit {0}) (entry_at path octets)
    → behind front (entries_at (count - i) path number octets) ≡ total → FailsAs (wrong_field e) (Unit {0}) total
unfolding entries_at
stops Memory front count i number path octets total lt h so_far = tt
stops (Fault left kind) front count i number path octets total lt h so_far =
    let k : count - i ≡ suc (count - (i + 1)) = omega arith in
    let one : behind front (entries_at (count - i) path number octets) ≡ Err (record { left = left; kind = kind }) = rw (k, h) refl in
    sym so_far ∙ one

pub is_done : (front : List LowerNode) (count i number : ℕ) (path : List OpenDir) (octets : List ℕ) (total : Field (List LowerNode)) → count ≤ i
    → behind front (entries_at (count - i) path number octets) ≡ total → total ≡ Ok (front, octets)
unfolding entries_at
is_done front count i number path octets total le so_far =
    let k : count - i ≡ 0 = omega arith in
    let one : behind front (entries_at (count - i) path number octets) ≡ Ok (front, octets) = rw k (ap (λ (ns : List LowerNode). Ok (ns, octets)) (append-nil front)) in
    sym so_far ∙ one
