-- What a call answers, against what a definition gives.
use Rattle.std.specs.Prelude.{◌≡◌, Option, Some, None, Result, Ok, Err, IsOkAnd}

-- Tests one behind another: the first fault is the answer.
infixl 10 ◌>>=◌
abbrev pub ◌>>=◌ : {A B E : Type 0} → Result A E → (A → Result B E) → Result B E
(Ok x) >>= f = f x
(Err e) >>= f = Err e

-- A call failed with this fault, which is that of the definition. Without a fault memory ran out, which it does only where it was taken.
abbrev pub FailsAs : {Y F : Type 0} → Option F → Type 0 → Result Y F → Type 0
FailsAs (Some fault) Taken given = given ≡ Err fault
FailsAs None Taken given = Taken

-- What a call answered is what the definition gives: the value, seen by a view, or the fault that the error tells. Memory may have run out where it was taken.
abbrev pub GivesAs : {X Y E F : Type 0} → (X → Y) → (E → Option F) → Type 0 → Result X E → Result Y F → Type 0
GivesAs view fault_of Taken (Ok x) given = given ≡ Ok (view x)
GivesAs view fault_of Taken (Err e) given = FailsAs (fault_of e) Taken given

-- The same where the value stands in a relation to the definition's.
abbrev pub GivesBy : {X Y E F : Type 0} → (X → Y → Type 0) → (E → Option F) → Type 0 → Result X E → Result Y F → Type 0
GivesBy Related fault_of Taken (Ok x) given = IsOkAnd given (Related x)
GivesBy Related fault_of Taken (Err e) given = FailsAs (fault_of e) Taken given
