-- What holds where memory was taken in fewer cases.
use Rattle.std.proofs.Common.{◌≡◌, Option, Some, None, Result, Ok, Err}
use Rattle.answer_model.specs.Answer.{FailsAs, GivesAs, GivesBy}

-- a failure, where memory is taken in more cases
pub FailsAs-more : {Y F : Type 0} (fault : Option F) (A B : Type 0) (given : Result Y F) → (A → B) → FailsAs fault A given → FailsAs fault B given
FailsAs-more (Some fault) A B given more h = h
FailsAs-more None A B given more h = more h

-- an answer that a view relates, where memory is taken in more cases
pub GivesAs-more : {X Y E F : Type 0} (view : X → Y) (fault_of : E → Option F) (A B : Type 0) (r : Result X E) (given : Result Y F) → (A → B) → GivesAs view fault_of A r given → GivesAs view fault_of B r given
GivesAs-more view fault_of A B (Ok x) given more h = h
GivesAs-more view fault_of A B (Err e) given more h = FailsAs-more (fault_of e) A B given more h

-- an answer in a relation, where memory is taken in more cases
pub GivesBy-more : {X Y E F : Type 0} (Related : X → Y → Type 0) (fault_of : E → Option F) (A B : Type 0) (r : Result X E) (given : Result Y F) → (A → B) → GivesBy Related fault_of A r given → GivesBy Related fault_of B r given
GivesBy-more Related fault_of A B (Ok x) given more h = h
GivesBy-more Related fault_of A B (Err e) given more h = FailsAs-more (fault_of e) A B given more h
