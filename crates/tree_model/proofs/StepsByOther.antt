-- Steps of a plain tree, as another implementation computes them.
use Rattle.std.proofs.Common.{◌≡◌, [], ◌∷◌, Some, None, refl}
use Rattle.std.specs.Prelude.{codes}
use Rattle.lower_model.specs.declared.kind.Kind.TheVariants as kinds
use Rattle.tree_model.specs.declared.call.TreeCall.TheVariants as calls
use Rattle.tree_model.specs.declared.call.TreeReply.TheVariants as replies
use Rattle.tree_model.specs.declared.call.TreeRefusal.TheVariants as refusals
use Rattle.tree_model.specs.declared.place.Place.TheVariants.{Dir, File, Nothing}
use Rattle.tree_model.specs.PlainTree.{step}

-- list err notdir
step_0 : step (record { limit = 4; places = Dir (record { shown = ((codes "b"), 1) ∷ ((codes "c"), 8) ∷ []; foreign = [] }) ∷ Dir (record { shown = ((codes "a"), 2) ∷ ((codes "b"), 7) ∷ []; foreign = [] }) ∷ Dir (record { shown = ((codes "a"), 5) ∷ []; foreign = record { lower = (codes "#"); node = 3; blocks = None } ∷ record { lower = (codes "~c"); node = 6; blocks = Some (codes "c") } ∷ [] }) ∷ Nothing ∷ Nothing ∷ File ∷ Nothing ∷ File ∷ Dir (record { shown = ((codes "a"), 9) ∷ []; foreign = [] }) ∷ File ∷ [] }) (calls.List ((codes "c") ∷ (codes "a") ∷ [])) ≡ record { reply = replies.Refused refusals.NotDir; tree = record { limit = 4; places = Dir (record { shown = ((codes "b"), 1) ∷ ((codes "c"), 8) ∷ []; foreign = [] }) ∷ Dir (record { shown = ((codes "a"), 2) ∷ ((codes "b"), 7) ∷ []; foreign = [] }) ∷ Dir (record { shown = ((codes "a"), 5) ∷ []; foreign = record { lower = (codes "#"); node = 3; blocks = None } ∷ record { lower = (codes "~c"); node = 6; blocks = Some (codes "c") } ∷ [] }) ∷ Nothing ∷ Nothing ∷ File ∷ Nothing ∷ File ∷ Dir (record { shown = ((codes "a"), 9) ∷ []; foreign = [] }) ∷ File ∷ [] } }
step_0 = refl

-- rename err notdir
step_1 : step (record { limit = 4; places = Dir (record { shown = ((codes "a"), 2) ∷ []; foreign = record { lower = (codes "#"); node = 1; blocks = None } ∷ record { lower = (codes "~b"); node = 4; blocks = Some (codes "b") } ∷ [] }) ∷ Nothing ∷ File ∷ Nothing ∷ Nothing ∷ [] }) (calls.Rename (record { old = (codes "a") ∷ (codes "c") ∷ []; new = (codes "a") ∷ [] })) ≡ record { reply = replies.Refused refusals.NotDir; tree = record { limit = 4; places = Dir (record { shown = ((codes "a"), 2) ∷ []; foreign = record { lower = (codes "#"); node = 1; blocks = None } ∷ record { lower = (codes "~b"); node = 4; blocks = Some (codes "b") } ∷ [] }) ∷ Nothing ∷ File ∷ Nothing ∷ Nothing ∷ [] } }
step_1 = refl

-- rename err notdir
step_2 : step (record { limit = 4; places = Dir (record { shown = ((codes "a"), 1) ∷ ((codes "c"), 3) ∷ []; foreign = [] }) ∷ Dir (record { shown = ((codes "a"), 2) ∷ []; foreign = [] }) ∷ File ∷ Dir (record { shown = ((codes "a"), 5) ∷ ((codes "b"), 9) ∷ ((codes "c"), 10) ∷ []; foreign = record { lower = (codes "#"); node = 4; blocks = None } ∷ [] }) ∷ Nothing ∷ Dir (record { shown = ((codes "c"), 8) ∷ []; foreign = record { lower = (codes "~b"); node = 7; blocks = Some (codes "b") } ∷ [] }) ∷ Nothing ∷ Nothing ∷ File ∷ File ∷ Dir (record { shown = ((codes "a"), 13) ∷ ((codes "b"), 12) ∷ []; foreign = record { lower = (codes "#"); node = 11; blocks = None } ∷ [] }) ∷ Nothing ∷ File ∷ File ∷ [] }) (calls.Rename (record { old = (codes "c") ∷ (codes "c") ∷ (codes "b") ∷ []; new = (codes "c") ∷ (codes "c") ∷ (codes "b") ∷ (codes "c") ∷ [] })) ≡ record { reply = replies.Refused refusals.NotDir; tree = record { limit = 4; places = Dir (record { shown = ((codes "a"), 1) ∷ ((codes "c"), 3) ∷ []; foreign = [] }) ∷ Dir (record { shown = ((codes "a"), 2) ∷ []; foreign = [] }) ∷ File ∷ Dir (record { shown = ((codes "a"), 5) ∷ ((codes "b"), 9) ∷ ((codes "c"), 10) ∷ []; foreign = record { lower = (codes "#"); node = 4; blocks = None } ∷ [] }) ∷ Nothing ∷ Dir (record { shown = ((codes "c"), 8) ∷ []; foreign = record { lower = (codes "~b"); node = 7; blocks = Some (codes "b") } ∷ [] }) ∷ Nothing ∷ Nothing ∷ File ∷ File ∷ Dir (record { shown = ((codes "a"), 13) ∷ ((codes "b"), 12) ∷ []; foreign = record { lower = (codes "#"); node = 11; blocks = None } ∷ [] }) ∷ Nothing ∷ File ∷ File ∷ [] } }
step_2 = refl

-- unlink done
step_3 : step (record { limit = 4; places = Dir (record { shown = ((codes "a"), 2) ∷ ((codes "b"), 9) ∷ ((codes "c"), 1) ∷ []; foreign = [] }) ∷ File ∷ Dir (record { shown = ((codes "a"), 7) ∷ ((codes "b"), 3) ∷ ((codes "c"), 5) ∷ []; foreign = [] }) ∷ Dir (record { shown = []; foreign = record { lower = (codes "#"); node = 4; blocks = None } ∷ [] }) ∷ Nothing ∷ Dir (record { shown = []; foreign = record { lower = (codes "#"); node = 6; blocks = None } ∷ [] }) ∷ Nothing ∷ Dir (record { shown = ((codes "c"), 8) ∷ []; foreign = [] }) ∷ File ∷ Dir (record { shown = ((codes "a"), 10) ∷ ((codes "b"), 14) ∷ []; foreign = record { lower = (codes "~c"); node = 18; blocks = Some (codes "c") } ∷ [] }) ∷ Dir (record { shown = ((codes "a"), 11) ∷ ((codes "b"), 12) ∷ []; foreign = [] }) ∷ File ∷ File ∷ Nothing ∷ Dir (record { shown = ((codes "a"), 15) ∷ ((codes "b"), 16) ∷ []; foreign = record { lower = (codes "~a"); node = 17; blocks = Some (codes "a") } ∷ [] }) ∷ File ∷ File ∷ Nothing ∷ Nothing ∷ Nothing ∷ Nothing ∷ Nothing ∷ Nothing ∷ [] }) (calls.Unlink ((codes "a") ∷ (codes "a") ∷ (codes "c") ∷ [])) ≡ record { reply = replies.Done; tree = record { limit = 4; places = Dir (record { shown = ((codes "a"), 2) ∷ ((codes "b"), 9) ∷ ((codes "c"), 1) ∷ []; foreign = [] }) ∷ File ∷ Dir (record { shown = ((codes "a"), 7) ∷ ((codes "b"), 3) ∷ ((codes "c"), 5) ∷ []; foreign = [] }) ∷ Dir (record { shown = []; foreign = record { lower = (codes "#"); node = 4; blocks = None } ∷ [] }) ∷ Nothing ∷ Dir (record { shown = []; foreign = record { lower = (codes "#"); node = 6; blocks = None } ∷ [] }) ∷ Nothing ∷ Dir (record { shown = []; foreign = [] }) ∷ Nothing ∷ Dir (record { shown = ((codes "a"), 10) ∷ ((codes "b"), 14) ∷ []; foreign = record { lower = (codes "~c"); node = 18; blocks = Some (codes "c") } ∷ [] }) ∷ Dir (record { shown = ((codes "a"), 11) ∷ ((codes "b"), 12) ∷ []; foreign = [] }) ∷ File ∷ File ∷ Nothing ∷ Dir (record { shown = ((codes "a"), 15) ∷ ((codes "b"), 16) ∷ []; foreign = record { lower = (codes "~a"); node = 17; blocks = Some (codes "a") } ∷ [] }) ∷ File ∷ File ∷ Nothing ∷ Nothing ∷ Nothing ∷ Nothing ∷ Nothing ∷ Nothing ∷ [] } }
step_3 = refl

-- stat info
step_4 : step (record { limit = 4; places = Dir (record { shown = ((codes "a"), 9) ∷ []; foreign = record { lower = (codes "#"); node = 1; blocks = None } ∷ [] }) ∷ Nothing ∷ Nothing ∷ Nothing ∷ Nothing ∷ Nothing ∷ Nothing ∷ Nothing ∷ Nothing ∷ Dir (record { shown = []; foreign = [] }) ∷ [] }) (calls.Stat ([])) ≡ record { reply = replies.Info kinds.Dir 0; tree = record { limit = 4; places = Dir (record { shown = ((codes "a"), 9) ∷ []; foreign = record { lower = (codes "#"); node = 1; blocks = None } ∷ [] }) ∷ Nothing ∷ Nothing ∷ Nothing ∷ Nothing ∷ Nothing ∷ Nothing ∷ Nothing ∷ Nothing ∷ Dir (record { shown = []; foreign = [] }) ∷ [] } }
step_4 = refl

-- create err notdir
step_5 : step (record { limit = 4; places = Dir (record { shown = ((codes "a"), 2) ∷ ((codes "c"), 3) ∷ []; foreign = record { lower = (codes "#"); node = 1; blocks = None } ∷ record { lower = (codes "~c"); node = 4; blocks = Some (codes "c") } ∷ [] }) ∷ Nothing ∷ File ∷ File ∷ Nothing ∷ Nothing ∷ Nothing ∷ Nothing ∷ Nothing ∷ Nothing ∷ [] }) (calls.Create ((codes "c") ∷ (codes "c") ∷ [])) ≡ record { reply = replies.Refused refusals.NotDir; tree = record { limit = 4; places = Dir (record { shown = ((codes "a"), 2) ∷ ((codes "c"), 3) ∷ []; foreign = record { lower = (codes "#"); node = 1; blocks = None } ∷ record { lower = (codes "~c"); node = 4; blocks = Some (codes "c") } ∷ [] }) ∷ Nothing ∷ File ∷ File ∷ Nothing ∷ Nothing ∷ Nothing ∷ Nothing ∷ Nothing ∷ Nothing ∷ [] } }
step_5 = refl

-- list err notfound
step_6 : step (record { limit = 4; places = Dir (record { shown = ((codes "c"), 2) ∷ []; foreign = record { lower = (codes "#"); node = 1; blocks = None } ∷ [] }) ∷ Nothing ∷ File ∷ [] }) (calls.List ((codes "d") ∷ [])) ≡ record { reply = replies.Refused refusals.NotFound; tree = record { limit = 4; places = Dir (record { shown = ((codes "c"), 2) ∷ []; foreign = record { lower = (codes "#"); node = 1; blocks = None } ∷ [] }) ∷ Nothing ∷ File ∷ [] } }
step_6 = refl

-- create err exists
step_7 : step (record { limit = 4; places = Dir (record { shown = ((codes "a"), 1) ∷ ((codes "b"), 2) ∷ []; foreign = record { lower = (codes "~a"); node = 3; blocks = Some (codes "a") } ∷ [] }) ∷ File ∷ Dir (record { shown = []; foreign = [] }) ∷ Nothing ∷ Nothing ∷ Nothing ∷ Nothing ∷ [] }) (calls.Create ((codes "b") ∷ [])) ≡ record { reply = replies.Refused refusals.Exists; tree = record { limit = 4; places = Dir (record { shown = ((codes "a"), 1) ∷ ((codes "b"), 2) ∷ []; foreign = record { lower = (codes "~a"); node = 3; blocks = Some (codes "a") } ∷ [] }) ∷ File ∷ Dir (record { shown = []; foreign = [] }) ∷ Nothing ∷ Nothing ∷ Nothing ∷ Nothing ∷ [] } }
step_7 = refl

-- rename err notfound
step_8 : step (record { limit = 4; places = Dir (record { shown = ((codes "c"), 2) ∷ []; foreign = record { lower = (codes "~b"); node = 3; blocks = Some (codes "b") } ∷ [] }) ∷ Nothing ∷ File ∷ Nothing ∷ [] }) (calls.Rename (record { old = (codes "b") ∷ []; new = (codes "a") ∷ [] })) ≡ record { reply = replies.Refused refusals.NotFound; tree = record { limit = 4; places = Dir (record { shown = ((codes "c"), 2) ∷ []; foreign = record { lower = (codes "~b"); node = 3; blocks = Some (codes "b") } ∷ [] }) ∷ Nothing ∷ File ∷ Nothing ∷ [] } }
step_8 = refl

-- resolve node
step_9 : step (record { limit = 4; places = Dir (record { shown = ((codes "a"), 2) ∷ ((codes "b"), 4) ∷ []; foreign = record { lower = (codes "#"); node = 1; blocks = None } ∷ record { lower = (codes "~a"); node = 5; blocks = Some (codes "a") } ∷ [] }) ∷ Nothing ∷ Dir (record { shown = ((codes "c"), 3) ∷ []; foreign = [] }) ∷ File ∷ File ∷ Nothing ∷ [] }) (calls.Resolve ((codes "b") ∷ [])) ≡ record { reply = replies.Node 4; tree = record { limit = 4; places = Dir (record { shown = ((codes "a"), 2) ∷ ((codes "b"), 4) ∷ []; foreign = record { lower = (codes "#"); node = 1; blocks = None } ∷ record { lower = (codes "~a"); node = 5; blocks = Some (codes "a") } ∷ [] }) ∷ Nothing ∷ Dir (record { shown = ((codes "c"), 3) ∷ []; foreign = [] }) ∷ File ∷ File ∷ Nothing ∷ [] } }
step_9 = refl

-- rename err notfound
step_10 : step (record { limit = 4; places = Dir (record { shown = ((codes "a"), 1) ∷ ((codes "b"), 2) ∷ []; foreign = [] }) ∷ File ∷ File ∷ [] }) (calls.Rename (record { old = (codes "d") ∷ []; new = (codes "b") ∷ [] })) ≡ record { reply = replies.Refused refusals.NotFound; tree = record { limit = 4; places = Dir (record { shown = ((codes "a"), 1) ∷ ((codes "b"), 2) ∷ []; foreign = [] }) ∷ File ∷ File ∷ [] } }
step_10 = refl

-- rename done
step_11 : step (record { limit = 4; places = Dir (record { shown = ((codes "a"), 2) ∷ ((codes "b"), 3) ∷ ((codes "c"), 4) ∷ []; foreign = record { lower = (codes "#"); node = 1; blocks = None } ∷ [] }) ∷ Nothing ∷ Dir (record { shown = []; foreign = [] }) ∷ File ∷ Dir (record { shown = ((codes "a"), 9) ∷ ((codes "b"), 10) ∷ []; foreign = record { lower = (codes "#"); node = 5; blocks = None } ∷ [] }) ∷ Nothing ∷ Nothing ∷ Nothing ∷ Nothing ∷ File ∷ Dir (record { shown = ((codes "a"), 12) ∷ ((codes "c"), 13) ∷ []; foreign = record { lower = (codes "#"); node = 11; blocks = None } ∷ [] }) ∷ Nothing ∷ File ∷ File ∷ [] }) (calls.Rename (record { old = (codes "c") ∷ (codes "a") ∷ []; new = (codes "c") ∷ (codes "b") ∷ (codes "c") ∷ [] })) ≡ record { reply = replies.Done; tree = record { limit = 4; places = Dir (record { shown = ((codes "a"), 2) ∷ ((codes "b"), 3) ∷ ((codes "c"), 4) ∷ []; foreign = record { lower = (codes "#"); node = 1; blocks = None } ∷ [] }) ∷ Nothing ∷ Dir (record { shown = []; foreign = [] }) ∷ File ∷ Dir (record { shown = ((codes "b"), 10) ∷ []; foreign = record { lower = (codes "#"); node = 5; blocks = None } ∷ [] }) ∷ Nothing ∷ Nothing ∷ Nothing ∷ Nothing ∷ File ∷ Dir (record { shown = ((codes "a"), 12) ∷ ((codes "c"), 9) ∷ []; foreign = record { lower = (codes "#"); node = 11; blocks = None } ∷ [] }) ∷ Nothing ∷ File ∷ Nothing ∷ [] } }
step_11 = refl

-- rename err inside
step_12 : step (record { limit = 4; places = Dir (record { shown = ((codes "b"), 1) ∷ ((codes "c"), 7) ∷ []; foreign = [] }) ∷ Dir (record { shown = ((codes "a"), 2) ∷ ((codes "c"), 5) ∷ []; foreign = [] }) ∷ Dir (record { shown = ((codes "a"), 3) ∷ ((codes "c"), 4) ∷ []; foreign = [] }) ∷ File ∷ File ∷ Dir (record { shown = ((codes "b"), 6) ∷ []; foreign = [] }) ∷ File ∷ File ∷ [] }) (calls.Rename (record { old = (codes "b") ∷ (codes "c") ∷ []; new = (codes "b") ∷ (codes "c") ∷ (codes "d") ∷ [] })) ≡ record { reply = replies.Refused refusals.Inside; tree = record { limit = 4; places = Dir (record { shown = ((codes "b"), 1) ∷ ((codes "c"), 7) ∷ []; foreign = [] }) ∷ Dir (record { shown = ((codes "a"), 2) ∷ ((codes "c"), 5) ∷ []; foreign = [] }) ∷ Dir (record { shown = ((codes "a"), 3) ∷ ((codes "c"), 4) ∷ []; foreign = [] }) ∷ File ∷ File ∷ Dir (record { shown = ((codes "b"), 6) ∷ []; foreign = [] }) ∷ File ∷ File ∷ [] } }
step_12 = refl

-- mkdir done
step_13 : step (record { limit = 4; places = Dir (record { shown = ((codes "a"), 1) ∷ ((codes "b"), 2) ∷ []; foreign = [] }) ∷ File ∷ Dir (record { shown = ((codes "a"), 5) ∷ ((codes "c"), 6) ∷ []; foreign = record { lower = (codes "#"); node = 3; blocks = None } ∷ [] }) ∷ Nothing ∷ Nothing ∷ File ∷ Dir (record { shown = ((codes "a"), 7) ∷ ((codes "c"), 9) ∷ []; foreign = record { lower = (codes "~b"); node = 10; blocks = Some (codes "b") } ∷ [] }) ∷ File ∷ Nothing ∷ File ∷ Nothing ∷ [] }) (calls.Mkdir ((codes "b") ∷ (codes "c") ∷ (codes "d") ∷ [])) ≡ record { reply = replies.Done; tree = record { limit = 4; places = Dir (record { shown = ((codes "a"), 1) ∷ ((codes "b"), 2) ∷ []; foreign = [] }) ∷ File ∷ Dir (record { shown = ((codes "a"), 5) ∷ ((codes "c"), 6) ∷ []; foreign = record { lower = (codes "#"); node = 3; blocks = None } ∷ [] }) ∷ Nothing ∷ Nothing ∷ File ∷ Dir (record { shown = ((codes "a"), 7) ∷ ((codes "c"), 9) ∷ ((codes "d"), 11) ∷ []; foreign = record { lower = (codes "~b"); node = 10; blocks = Some (codes "b") } ∷ [] }) ∷ File ∷ Nothing ∷ File ∷ Nothing ∷ Dir (record { shown = []; foreign = [] }) ∷ [] } }
step_13 = refl

-- rmdir err notdir
step_14 : step (record { limit = 4; places = Dir (record { shown = ((codes "a"), 1) ∷ ((codes "c"), 2) ∷ []; foreign = [] }) ∷ File ∷ File ∷ [] }) (calls.Rmdir ((codes "c") ∷ (codes "b") ∷ [])) ≡ record { reply = replies.Refused refusals.NotDir; tree = record { limit = 4; places = Dir (record { shown = ((codes "a"), 1) ∷ ((codes "c"), 2) ∷ []; foreign = [] }) ∷ File ∷ File ∷ [] } }
step_14 = refl

-- rename done
step_15 : step (record { limit = 4; places = Dir (record { shown = ((codes "a"), 1) ∷ []; foreign = record { lower = (codes "~a"); node = 5; blocks = Some (codes "a") } ∷ [] }) ∷ Dir (record { shown = ((codes "a"), 3) ∷ ((codes "b"), 2) ∷ []; foreign = [] }) ∷ File ∷ Dir (record { shown = ((codes "a"), 4) ∷ []; foreign = [] }) ∷ File ∷ Nothing ∷ [] }) (calls.Rename (record { old = (codes "a") ∷ []; new = (codes "a") ∷ [] })) ≡ record { reply = replies.Done; tree = record { limit = 4; places = Dir (record { shown = ((codes "a"), 1) ∷ []; foreign = record { lower = (codes "~a"); node = 5; blocks = Some (codes "a") } ∷ [] }) ∷ Dir (record { shown = ((codes "a"), 3) ∷ ((codes "b"), 2) ∷ []; foreign = [] }) ∷ File ∷ Dir (record { shown = ((codes "a"), 4) ∷ []; foreign = [] }) ∷ File ∷ Nothing ∷ [] } }
step_15 = refl

-- rename err isdir
step_16 : step (record { limit = 4; places = Dir (record { shown = ((codes "b"), 1) ∷ ((codes "c"), 4) ∷ []; foreign = [] }) ∷ Dir (record { shown = ((codes "c"), 2) ∷ []; foreign = [] }) ∷ Dir (record { shown = ((codes "a"), 3) ∷ []; foreign = [] }) ∷ File ∷ Dir (record { shown = []; foreign = [] }) ∷ [] }) (calls.Rename (record { old = (codes "b") ∷ (codes "c") ∷ (codes "a") ∷ []; new = (codes "c") ∷ [] })) ≡ record { reply = replies.Refused refusals.IsDir; tree = record { limit = 4; places = Dir (record { shown = ((codes "b"), 1) ∷ ((codes "c"), 4) ∷ []; foreign = [] }) ∷ Dir (record { shown = ((codes "c"), 2) ∷ []; foreign = [] }) ∷ Dir (record { shown = ((codes "a"), 3) ∷ []; foreign = [] }) ∷ File ∷ Dir (record { shown = []; foreign = [] }) ∷ [] } }
step_16 = refl

-- stat err notdir
step_17 : step (record { limit = 4; places = Dir (record { shown = ((codes "b"), 1) ∷ []; foreign = record { lower = (codes "~b"); node = 2; blocks = Some (codes "b") } ∷ [] }) ∷ File ∷ Nothing ∷ [] }) (calls.Stat ((codes "b") ∷ (codes "b") ∷ [])) ≡ record { reply = replies.Refused refusals.NotDir; tree = record { limit = 4; places = Dir (record { shown = ((codes "b"), 1) ∷ []; foreign = record { lower = (codes "~b"); node = 2; blocks = Some (codes "b") } ∷ [] }) ∷ File ∷ Nothing ∷ [] } }
step_17 = refl

-- rename err isdir
step_18 : step (record { limit = 4; places = Dir (record { shown = ((codes "b"), 2) ∷ ((codes "c"), 1) ∷ []; foreign = [] }) ∷ File ∷ Dir (record { shown = []; foreign = [] }) ∷ [] }) (calls.Rename (record { old = (codes "c") ∷ []; new = (codes "b") ∷ [] })) ≡ record { reply = replies.Refused refusals.IsDir; tree = record { limit = 4; places = Dir (record { shown = ((codes "b"), 2) ∷ ((codes "c"), 1) ∷ []; foreign = [] }) ∷ File ∷ Dir (record { shown = []; foreign = [] }) ∷ [] } }
step_18 = refl

-- resolve err isdir
step_19 : step (record { limit = 4; places = Dir (record { shown = ((codes "c"), 1) ∷ []; foreign = record { lower = (codes "~c"); node = 2; blocks = Some (codes "c") } ∷ [] }) ∷ File ∷ Nothing ∷ Nothing ∷ Nothing ∷ [] }) (calls.Resolve ([])) ≡ record { reply = replies.Refused refusals.IsDir; tree = record { limit = 4; places = Dir (record { shown = ((codes "c"), 1) ∷ []; foreign = record { lower = (codes "~c"); node = 2; blocks = Some (codes "c") } ∷ [] }) ∷ File ∷ Nothing ∷ Nothing ∷ Nothing ∷ [] } }
step_19 = refl

-- rename err isroot
step_20 : step (record { limit = 4; places = Dir (record { shown = ((codes "a"), 5) ∷ ((codes "c"), 2) ∷ []; foreign = record { lower = (codes "#"); node = 1; blocks = None } ∷ record { lower = (codes "~c"); node = 6; blocks = Some (codes "c") } ∷ [] }) ∷ Nothing ∷ Dir (record { shown = ((codes "a"), 4) ∷ []; foreign = record { lower = (codes "#"); node = 3; blocks = None } ∷ [] }) ∷ Nothing ∷ Dir (record { shown = []; foreign = [] }) ∷ File ∷ Nothing ∷ [] }) (calls.Rename (record { old = []; new = (codes "c") ∷ [] })) ≡ record { reply = replies.Refused refusals.IsRoot; tree = record { limit = 4; places = Dir (record { shown = ((codes "a"), 5) ∷ ((codes "c"), 2) ∷ []; foreign = record { lower = (codes "#"); node = 1; blocks = None } ∷ record { lower = (codes "~c"); node = 6; blocks = Some (codes "c") } ∷ [] }) ∷ Nothing ∷ Dir (record { shown = ((codes "a"), 4) ∷ []; foreign = record { lower = (codes "#"); node = 3; blocks = None } ∷ [] }) ∷ Nothing ∷ Dir (record { shown = []; foreign = [] }) ∷ File ∷ Nothing ∷ [] } }
step_20 = refl

-- mkdir err exists
step_21 : step (record { limit = 4; places = Dir (record { shown = ((codes "a"), 1) ∷ ((codes "b"), 3) ∷ ((codes "c"), 2) ∷ []; foreign = [] }) ∷ File ∷ Dir (record { shown = []; foreign = [] }) ∷ Dir (record { shown = []; foreign = record { lower = (codes "#"); node = 4; blocks = None } ∷ [] }) ∷ Nothing ∷ [] }) (calls.Mkdir ((codes "a") ∷ [])) ≡ record { reply = replies.Refused refusals.Exists; tree = record { limit = 4; places = Dir (record { shown = ((codes "a"), 1) ∷ ((codes "b"), 3) ∷ ((codes "c"), 2) ∷ []; foreign = [] }) ∷ File ∷ Dir (record { shown = []; foreign = [] }) ∷ Dir (record { shown = []; foreign = record { lower = (codes "#"); node = 4; blocks = None } ∷ [] }) ∷ Nothing ∷ [] } }
step_21 = refl

-- rmdir err notfound
step_22 : step (record { limit = 4; places = Dir (record { shown = ((codes "b"), 2) ∷ ((codes "c"), 3) ∷ []; foreign = record { lower = (codes "#"); node = 1; blocks = None } ∷ [] }) ∷ Nothing ∷ Dir (record { shown = []; foreign = [] }) ∷ File ∷ [] }) (calls.Rmdir ((codes "b") ∷ (codes "b") ∷ [])) ≡ record { reply = replies.Refused refusals.NotFound; tree = record { limit = 4; places = Dir (record { shown = ((codes "b"), 2) ∷ ((codes "c"), 3) ∷ []; foreign = record { lower = (codes "#"); node = 1; blocks = None } ∷ [] }) ∷ Nothing ∷ Dir (record { shown = []; foreign = [] }) ∷ File ∷ [] } }
step_22 = refl

-- rename err isroot
step_23 : step (record { limit = 4; places = Dir (record { shown = []; foreign = record { lower = (codes "~b"); node = 2; blocks = Some (codes "b") } ∷ [] }) ∷ Nothing ∷ Nothing ∷ [] }) (calls.Rename (record { old = []; new = (codes "c") ∷ [] })) ≡ record { reply = replies.Refused refusals.IsRoot; tree = record { limit = 4; places = Dir (record { shown = []; foreign = record { lower = (codes "~b"); node = 2; blocks = Some (codes "b") } ∷ [] }) ∷ Nothing ∷ Nothing ∷ [] } }
step_23 = refl

-- mkdir err isroot
step_24 : step (record { limit = 4; places = Dir (record { shown = ((codes "b"), 7) ∷ ((codes "c"), 8) ∷ []; foreign = record { lower = (codes "#"); node = 1; blocks = None } ∷ [] }) ∷ Nothing ∷ Nothing ∷ Nothing ∷ Nothing ∷ Nothing ∷ Nothing ∷ File ∷ File ∷ [] }) (calls.Mkdir ([])) ≡ record { reply = replies.Refused refusals.IsRoot; tree = record { limit = 4; places = Dir (record { shown = ((codes "b"), 7) ∷ ((codes "c"), 8) ∷ []; foreign = record { lower = (codes "#"); node = 1; blocks = None } ∷ [] }) ∷ Nothing ∷ Nothing ∷ Nothing ∷ Nothing ∷ Nothing ∷ Nothing ∷ File ∷ File ∷ [] } }
step_24 = refl

-- stat err notfound
step_25 : step (record { limit = 4; places = Dir (record { shown = ((codes "a"), 2) ∷ ((codes "b"), 11) ∷ []; foreign = record { lower = (codes "#"); node = 1; blocks = None } ∷ record { lower = (codes "~a"); node = 10; blocks = Some (codes "a") } ∷ [] }) ∷ Nothing ∷ Dir (record { shown = ((codes "a"), 5) ∷ ((codes "b"), 3) ∷ []; foreign = [] }) ∷ Dir (record { shown = ((codes "a"), 4) ∷ []; foreign = [] }) ∷ File ∷ Dir (record { shown = ((codes "a"), 8) ∷ ((codes "b"), 9) ∷ ((codes "c"), 7) ∷ []; foreign = record { lower = (codes "#"); node = 6; blocks = None } ∷ [] }) ∷ Nothing ∷ File ∷ File ∷ File ∷ Nothing ∷ Dir (record { shown = ((codes "b"), 13) ∷ []; foreign = record { lower = (codes "#"); node = 12; blocks = None } ∷ [] }) ∷ Nothing ∷ File ∷ [] }) (calls.Stat ((codes "b") ∷ (codes "c") ∷ [])) ≡ record { reply = replies.Refused refusals.NotFound; tree = record { limit = 4; places = Dir (record { shown = ((codes "a"), 2) ∷ ((codes "b"), 11) ∷ []; foreign = record { lower = (codes "#"); node = 1; blocks = None } ∷ record { lower = (codes "~a"); node = 10; blocks = Some (codes "a") } ∷ [] }) ∷ Nothing ∷ Dir (record { shown = ((codes "a"), 5) ∷ ((codes "b"), 3) ∷ []; foreign = [] }) ∷ Dir (record { shown = ((codes "a"), 4) ∷ []; foreign = [] }) ∷ File ∷ Dir (record { shown = ((codes "a"), 8) ∷ ((codes "b"), 9) ∷ ((codes "c"), 7) ∷ []; foreign = record { lower = (codes "#"); node = 6; blocks = None } ∷ [] }) ∷ Nothing ∷ File ∷ File ∷ File ∷ Nothing ∷ Dir (record { shown = ((codes "b"), 13) ∷ []; foreign = record { lower = (codes "#"); node = 12; blocks = None } ∷ [] }) ∷ Nothing ∷ File ∷ [] } }
step_25 = refl

-- rename err notempty
step_26 : step (record { limit = 4; places = Dir (record { shown = ((codes "a"), 3) ∷ ((codes "c"), 1) ∷ []; foreign = [] }) ∷ Dir (record { shown = ((codes "a"), 2) ∷ []; foreign = [] }) ∷ File ∷ Dir (record { shown = ((codes "a"), 4) ∷ ((codes "c"), 6) ∷ []; foreign = record { lower = (codes "~a"); node = 7; blocks = Some (codes "a") } ∷ [] }) ∷ Dir (record { shown = []; foreign = record { lower = (codes "#"); node = 5; blocks = None } ∷ [] }) ∷ Nothing ∷ Dir (record { shown = []; foreign = [] }) ∷ Nothing ∷ Nothing ∷ Nothing ∷ Nothing ∷ [] }) (calls.Rename (record { old = (codes "a") ∷ (codes "c") ∷ []; new = (codes "a") ∷ (codes "a") ∷ [] })) ≡ record { reply = replies.Refused refusals.NotEmpty; tree = record { limit = 4; places = Dir (record { shown = ((codes "a"), 3) ∷ ((codes "c"), 1) ∷ []; foreign = [] }) ∷ Dir (record { shown = ((codes "a"), 2) ∷ []; foreign = [] }) ∷ File ∷ Dir (record { shown = ((codes "a"), 4) ∷ ((codes "c"), 6) ∷ []; foreign = record { lower = (codes "~a"); node = 7; blocks = Some (codes "a") } ∷ [] }) ∷ Dir (record { shown = []; foreign = record { lower = (codes "#"); node = 5; blocks = None } ∷ [] }) ∷ Nothing ∷ Dir (record { shown = []; foreign = [] }) ∷ Nothing ∷ Nothing ∷ Nothing ∷ Nothing ∷ [] } }
step_26 = refl

-- rename err inside
step_27 : step (record { limit = 4; places = Dir (record { shown = ((codes "b"), 2) ∷ []; foreign = record { lower = (codes "#"); node = 1; blocks = None } ∷ [] }) ∷ Nothing ∷ Dir (record { shown = ((codes "a"), 4) ∷ []; foreign = record { lower = (codes "#"); node = 3; blocks = None } ∷ [] }) ∷ Nothing ∷ File ∷ [] }) (calls.Rename (record { old = (codes "b") ∷ []; new = (codes "b") ∷ (codes "b") ∷ [] })) ≡ record { reply = replies.Refused refusals.Inside; tree = record { limit = 4; places = Dir (record { shown = ((codes "b"), 2) ∷ []; foreign = record { lower = (codes "#"); node = 1; blocks = None } ∷ [] }) ∷ Nothing ∷ Dir (record { shown = ((codes "a"), 4) ∷ []; foreign = record { lower = (codes "#"); node = 3; blocks = None } ∷ [] }) ∷ Nothing ∷ File ∷ [] } }
step_27 = refl

-- rmdir err notempty
step_28 : step (record { limit = 4; places = Dir (record { shown = ((codes "a"), 11) ∷ ((codes "c"), 8) ∷ []; foreign = record { lower = (codes "#"); node = 1; blocks = None } ∷ record { lower = (codes "~c"); node = 25; blocks = Some (codes "c") } ∷ [] }) ∷ Nothing ∷ Nothing ∷ Nothing ∷ Nothing ∷ Nothing ∷ Nothing ∷ Nothing ∷ Dir (record { shown = ((codes "c"), 9) ∷ []; foreign = [] }) ∷ Dir (record { shown = []; foreign = record { lower = (codes "#"); node = 10; blocks = None } ∷ [] }) ∷ Nothing ∷ Dir (record { shown = ((codes "a"), 12) ∷ ((codes "b"), 15) ∷ ((codes "c"), 20) ∷ []; foreign = [] }) ∷ Dir (record { shown = ((codes "a"), 14) ∷ []; foreign = record { lower = (codes "#"); node = 13; blocks = None } ∷ [] }) ∷ Nothing ∷ File ∷ Dir (record { shown = ((codes "b"), 18) ∷ ((codes "c"), 17) ∷ []; foreign = record { lower = (codes "#"); node = 16; blocks = None } ∷ record { lower = (codes "~c"); node = 19; blocks = Some (codes "c") } ∷ [] }) ∷ Nothing ∷ File ∷ File ∷ Nothing ∷ Dir (record { shown = ((codes "a"), 22) ∷ ((codes "b"), 23) ∷ []; foreign = record { lower = (codes "#"); node = 21; blocks = None } ∷ record { lower = (codes "~a"); node = 24; blocks = Some (codes "a") } ∷ [] }) ∷ Nothing ∷ File ∷ File ∷ Nothing ∷ Nothing ∷ [] }) (calls.Rmdir ((codes "c") ∷ [])) ≡ record { reply = replies.Refused refusals.NotEmpty; tree = record { limit = 4; places = Dir (record { shown = ((codes "a"), 11) ∷ ((codes "c"), 8) ∷ []; foreign = record { lower = (codes "#"); node = 1; blocks = None } ∷ record { lower = (codes "~c"); node = 25; blocks = Some (codes "c") } ∷ [] }) ∷ Nothing ∷ Nothing ∷ Nothing ∷ Nothing ∷ Nothing ∷ Nothing ∷ Nothing ∷ Dir (record { shown = ((codes "c"), 9) ∷ []; foreign = [] }) ∷ Dir (record { shown = []; foreign = record { lower = (codes "#"); node = 10; blocks = None } ∷ [] }) ∷ Nothing ∷ Dir (record { shown = ((codes "a"), 12) ∷ ((codes "b"), 15) ∷ ((codes "c"), 20) ∷ []; foreign = [] }) ∷ Dir (record { shown = ((codes "a"), 14) ∷ []; foreign = record { lower = (codes "#"); node = 13; blocks = None } ∷ [] }) ∷ Nothing ∷ File ∷ Dir (record { shown = ((codes "b"), 18) ∷ ((codes "c"), 17) ∷ []; foreign = record { lower = (codes "#"); node = 16; blocks = None } ∷ record { lower = (codes "~c"); node = 19; blocks = Some (codes "c") } ∷ [] }) ∷ Nothing ∷ File ∷ File ∷ Nothing ∷ Dir (record { shown = ((codes "a"), 22) ∷ ((codes "b"), 23) ∷ []; foreign = record { lower = (codes "#"); node = 21; blocks = None } ∷ record { lower = (codes "~a"); node = 24; blocks = Some (codes "a") } ∷ [] }) ∷ Nothing ∷ File ∷ File ∷ Nothing ∷ Nothing ∷ [] } }
step_28 = refl

-- unlink err isdir
step_29 : step (record { limit = 4; places = Dir (record { shown = ((codes "b"), 2) ∷ ((codes "c"), 4) ∷ []; foreign = record { lower = (codes "#"); node = 1; blocks = None } ∷ record { lower = (codes "~b"); node = 6; blocks = Some (codes "b") } ∷ [] }) ∷ Nothing ∷ Dir (record { shown = []; foreign = record { lower = (codes "#"); node = 3; blocks = None } ∷ [] }) ∷ Nothing ∷ Dir (record { shown = ((codes "a"), 5) ∷ []; foreign = [] }) ∷ Dir (record { shown = []; foreign = [] }) ∷ Nothing ∷ Nothing ∷ Nothing ∷ Nothing ∷ Nothing ∷ [] }) (calls.Unlink ((codes "b") ∷ [])) ≡ record { reply = replies.Refused refusals.IsDir; tree = record { limit = 4; places = Dir (record { shown = ((codes "b"), 2) ∷ ((codes "c"), 4) ∷ []; foreign = record { lower = (codes "#"); node = 1; blocks = None } ∷ record { lower = (codes "~b"); node = 6; blocks = Some (codes "b") } ∷ [] }) ∷ Nothing ∷ Dir (record { shown = []; foreign = record { lower = (codes "#"); node = 3; blocks = None } ∷ [] }) ∷ Nothing ∷ Dir (record { shown = ((codes "a"), 5) ∷ []; foreign = [] }) ∷ Dir (record { shown = []; foreign = [] }) ∷ Nothing ∷ Nothing ∷ Nothing ∷ Nothing ∷ Nothing ∷ [] } }
step_29 = refl

-- mkdir err notdir
step_30 : step (record { limit = 4; places = Dir (record { shown = ((codes "b"), 11) ∷ ((codes "c"), 12) ∷ []; foreign = record { lower = (codes "#"); node = 1; blocks = None } ∷ [] }) ∷ Nothing ∷ Nothing ∷ Nothing ∷ Nothing ∷ Nothing ∷ Nothing ∷ Nothing ∷ Nothing ∷ Nothing ∷ Nothing ∷ File ∷ Dir (record { shown = ((codes "a"), 13) ∷ []; foreign = record { lower = (codes "~a"); node = 17; blocks = Some (codes "a") } ∷ [] }) ∷ Dir (record { shown = ((codes "b"), 15) ∷ ((codes "c"), 16) ∷ []; foreign = record { lower = (codes "#"); node = 14; blocks = None } ∷ [] }) ∷ Nothing ∷ File ∷ File ∷ Nothing ∷ Nothing ∷ Nothing ∷ Nothing ∷ [] }) (calls.Mkdir ((codes "c") ∷ (codes "a") ∷ (codes "b") ∷ (codes "b") ∷ [])) ≡ record { reply = replies.Refused refusals.NotDir; tree = record { limit = 4; places = Dir (record { shown = ((codes "b"), 11) ∷ ((codes "c"), 12) ∷ []; foreign = record { lower = (codes "#"); node = 1; blocks = None } ∷ [] }) ∷ Nothing ∷ Nothing ∷ Nothing ∷ Nothing ∷ Nothing ∷ Nothing ∷ Nothing ∷ Nothing ∷ Nothing ∷ Nothing ∷ File ∷ Dir (record { shown = ((codes "a"), 13) ∷ []; foreign = record { lower = (codes "~a"); node = 17; blocks = Some (codes "a") } ∷ [] }) ∷ Dir (record { shown = ((codes "b"), 15) ∷ ((codes "c"), 16) ∷ []; foreign = record { lower = (codes "#"); node = 14; blocks = None } ∷ [] }) ∷ Nothing ∷ File ∷ File ∷ Nothing ∷ Nothing ∷ Nothing ∷ Nothing ∷ [] } }
step_30 = refl

-- rename err exists
step_31 : step (record { limit = 4; places = Dir (record { shown = ((codes "b"), 19) ∷ []; foreign = record { lower = (codes "#"); node = 1; blocks = None } ∷ record { lower = (codes "~a"); node = 10; blocks = Some (codes "a") } ∷ [] }) ∷ Nothing ∷ Nothing ∷ Nothing ∷ Nothing ∷ Nothing ∷ Nothing ∷ Nothing ∷ Nothing ∷ Nothing ∷ Nothing ∷ Nothing ∷ Nothing ∷ Nothing ∷ Nothing ∷ Nothing ∷ Nothing ∷ Nothing ∷ Nothing ∷ Dir (record { shown = []; foreign = record { lower = (codes "#"); node = 20; blocks = None } ∷ [] }) ∷ Nothing ∷ [] }) (calls.Rename (record { old = (codes "b") ∷ []; new = (codes "a") ∷ [] })) ≡ record { reply = replies.Refused refusals.Exists; tree = record { limit = 4; places = Dir (record { shown = ((codes "b"), 19) ∷ []; foreign = record { lower = (codes "#"); node = 1; blocks = None } ∷ record { lower = (codes "~a"); node = 10; blocks = Some (codes "a") } ∷ [] }) ∷ Nothing ∷ Nothing ∷ Nothing ∷ Nothing ∷ Nothing ∷ Nothing ∷ Nothing ∷ Nothing ∷ Nothing ∷ Nothing ∷ Nothing ∷ Nothing ∷ Nothing ∷ Nothing ∷ Nothing ∷ Nothing ∷ Nothing ∷ Nothing ∷ Dir (record { shown = []; foreign = record { lower = (codes "#"); node = 20; blocks = None } ∷ [] }) ∷ Nothing ∷ [] } }
step_31 = refl

-- list names
step_32 : step (record { limit = 4; places = Dir (record { shown = ((codes "a"), 6) ∷ ((codes "b"), 7) ∷ []; foreign = record { lower = (codes "#"); node = 1; blocks = None } ∷ [] }) ∷ Nothing ∷ Nothing ∷ Nothing ∷ Nothing ∷ Nothing ∷ File ∷ Dir (record { shown = ((codes "c"), 10) ∷ []; foreign = record { lower = (codes "~b"); node = 9; blocks = Some (codes "b") } ∷ [] }) ∷ Nothing ∷ Nothing ∷ Dir (record { shown = ((codes "a"), 11) ∷ ((codes "b"), 12) ∷ []; foreign = [] }) ∷ File ∷ File ∷ [] }) (calls.List ([])) ≡ record { reply = replies.Names (record { kind = kinds.File; name = (codes "a") } ∷ record { kind = kinds.Dir; name = (codes "b") } ∷ []); tree = record { limit = 4; places = Dir (record { shown = ((codes "a"), 6) ∷ ((codes "b"), 7) ∷ []; foreign = record { lower = (codes "#"); node = 1; blocks = None } ∷ [] }) ∷ Nothing ∷ Nothing ∷ Nothing ∷ Nothing ∷ Nothing ∷ File ∷ Dir (record { shown = ((codes "c"), 10) ∷ []; foreign = record { lower = (codes "~b"); node = 9; blocks = Some (codes "b") } ∷ [] }) ∷ Nothing ∷ Nothing ∷ Dir (record { shown = ((codes "a"), 11) ∷ ((codes "b"), 12) ∷ []; foreign = [] }) ∷ File ∷ File ∷ [] } }
step_32 = refl

-- unlink err notdir
step_33 : step (record { limit = 4; places = Dir (record { shown = ((codes "a"), 2) ∷ ((codes "c"), 1) ∷ []; foreign = [] }) ∷ Dir (record { shown = []; foreign = [] }) ∷ File ∷ [] }) (calls.Unlink ((codes "a") ∷ (codes "abcde") ∷ [])) ≡ record { reply = replies.Refused refusals.NotDir; tree = record { limit = 4; places = Dir (record { shown = ((codes "a"), 2) ∷ ((codes "c"), 1) ∷ []; foreign = [] }) ∷ Dir (record { shown = []; foreign = [] }) ∷ File ∷ [] } }
step_33 = refl

-- resolve err notfound
step_34 : step (record { limit = 4; places = Dir (record { shown = ((codes "a"), 2) ∷ ((codes "b"), 3) ∷ []; foreign = record { lower = (codes "#"); node = 1; blocks = None } ∷ [] }) ∷ Nothing ∷ Dir (record { shown = []; foreign = [] }) ∷ Dir (record { shown = []; foreign = [] }) ∷ [] }) (calls.Resolve ((codes "abcde") ∷ [])) ≡ record { reply = replies.Refused refusals.NotFound; tree = record { limit = 4; places = Dir (record { shown = ((codes "a"), 2) ∷ ((codes "b"), 3) ∷ []; foreign = record { lower = (codes "#"); node = 1; blocks = None } ∷ [] }) ∷ Nothing ∷ Dir (record { shown = []; foreign = [] }) ∷ Dir (record { shown = []; foreign = [] }) ∷ [] } }
step_34 = refl

-- unlink err notfound
step_35 : step (record { limit = 4; places = Dir (record { shown = ((codes "b"), 1) ∷ ((codes "c"), 2) ∷ []; foreign = [] }) ∷ Dir (record { shown = []; foreign = [] }) ∷ Dir (record { shown = []; foreign = [] }) ∷ [] }) (calls.Unlink ((codes "b") ∷ (codes "c") ∷ [])) ≡ record { reply = replies.Refused refusals.NotFound; tree = record { limit = 4; places = Dir (record { shown = ((codes "b"), 1) ∷ ((codes "c"), 2) ∷ []; foreign = [] }) ∷ Dir (record { shown = []; foreign = [] }) ∷ Dir (record { shown = []; foreign = [] }) ∷ [] } }
step_35 = refl

-- rmdir err isroot
step_36 : step (record { limit = 4; places = Dir (record { shown = ((codes "a"), 1) ∷ ((codes "b"), 17) ∷ []; foreign = record { lower = (codes "~a"); node = 16; blocks = Some (codes "a") } ∷ [] }) ∷ Dir (record { shown = ((codes "a"), 2) ∷ ((codes "b"), 11) ∷ ((codes "c"), 15) ∷ []; foreign = record { lower = (codes "~a"); node = 6; blocks = Some (codes "a") } ∷ [] }) ∷ Dir (record { shown = ((codes "b"), 3) ∷ ((codes "c"), 4) ∷ []; foreign = record { lower = (codes "~b"); node = 5; blocks = Some (codes "b") } ∷ [] }) ∷ File ∷ File ∷ Nothing ∷ Nothing ∷ Nothing ∷ Nothing ∷ Nothing ∷ Nothing ∷ Dir (record { shown = ((codes "c"), 13) ∷ []; foreign = record { lower = (codes "#"); node = 12; blocks = None } ∷ record { lower = (codes "~c"); node = 14; blocks = Some (codes "c") } ∷ [] }) ∷ Nothing ∷ File ∷ Nothing ∷ File ∷ Nothing ∷ Dir (record { shown = []; foreign = [] }) ∷ [] }) (calls.Rmdir ([])) ≡ record { reply = replies.Refused refusals.IsRoot; tree = record { limit = 4; places = Dir (record { shown = ((codes "a"), 1) ∷ ((codes "b"), 17) ∷ []; foreign = record { lower = (codes "~a"); node = 16; blocks = Some (codes "a") } ∷ [] }) ∷ Dir (record { shown = ((codes "a"), 2) ∷ ((codes "b"), 11) ∷ ((codes "c"), 15) ∷ []; foreign = record { lower = (codes "~a"); node = 6; blocks = Some (codes "a") } ∷ [] }) ∷ Dir (record { shown = ((codes "b"), 3) ∷ ((codes "c"), 4) ∷ []; foreign = record { lower = (codes "~b"); node = 5; blocks = Some (codes "b") } ∷ [] }) ∷ File ∷ File ∷ Nothing ∷ Nothing ∷ Nothing ∷ Nothing ∷ Nothing ∷ Nothing ∷ Dir (record { shown = ((codes "c"), 13) ∷ []; foreign = record { lower = (codes "#"); node = 12; blocks = None } ∷ record { lower = (codes "~c"); node = 14; blocks = Some (codes "c") } ∷ [] }) ∷ Nothing ∷ File ∷ Nothing ∷ File ∷ Nothing ∷ Dir (record { shown = []; foreign = [] }) ∷ [] } }
step_36 = refl

-- create err isroot
step_37 : step (record { limit = 4; places = Dir (record { shown = ((codes "b"), 1) ∷ []; foreign = record { lower = (codes "~b"); node = 2; blocks = Some (codes "b") } ∷ [] }) ∷ File ∷ Nothing ∷ [] }) (calls.Create ([])) ≡ record { reply = replies.Refused refusals.IsRoot; tree = record { limit = 4; places = Dir (record { shown = ((codes "b"), 1) ∷ []; foreign = record { lower = (codes "~b"); node = 2; blocks = Some (codes "b") } ∷ [] }) ∷ File ∷ Nothing ∷ [] } }
step_37 = refl

-- resolve err notdir
step_38 : step (record { limit = 4; places = Dir (record { shown = ((codes "a"), 1) ∷ ((codes "b"), 10) ∷ ((codes "c"), 2) ∷ []; foreign = record { lower = (codes "~a"); node = 9; blocks = Some (codes "a") } ∷ [] }) ∷ File ∷ Dir (record { shown = ((codes "a"), 6) ∷ ((codes "c"), 7) ∷ []; foreign = record { lower = (codes "#"); node = 3; blocks = None } ∷ record { lower = (codes "~a"); node = 8; blocks = Some (codes "a") } ∷ [] }) ∷ Nothing ∷ Nothing ∷ Nothing ∷ File ∷ File ∷ Nothing ∷ Nothing ∷ File ∷ [] }) (calls.Resolve ((codes "c") ∷ (codes "a") ∷ (codes "b") ∷ [])) ≡ record { reply = replies.Refused refusals.NotDir; tree = record { limit = 4; places = Dir (record { shown = ((codes "a"), 1) ∷ ((codes "b"), 10) ∷ ((codes "c"), 2) ∷ []; foreign = record { lower = (codes "~a"); node = 9; blocks = Some (codes "a") } ∷ [] }) ∷ File ∷ Dir (record { shown = ((codes "a"), 6) ∷ ((codes "c"), 7) ∷ []; foreign = record { lower = (codes "#"); node = 3; blocks = None } ∷ record { lower = (codes "~a"); node = 8; blocks = Some (codes "a") } ∷ [] }) ∷ Nothing ∷ Nothing ∷ Nothing ∷ File ∷ File ∷ Nothing ∷ Nothing ∷ File ∷ [] } }
step_38 = refl

-- rename err namelong
step_39 : step (record { limit = 4; places = Dir (record { shown = ((codes "a"), 1) ∷ ((codes "b"), 10) ∷ ((codes "c"), 2) ∷ []; foreign = [] }) ∷ File ∷ Dir (record { shown = ((codes "a"), 3) ∷ ((codes "b"), 4) ∷ ((codes "c"), 5) ∷ []; foreign = [] }) ∷ File ∷ Dir (record { shown = []; foreign = [] }) ∷ Dir (record { shown = ((codes "a"), 6) ∷ ((codes "b"), 7) ∷ ((codes "c"), 9) ∷ []; foreign = record { lower = (codes "~a"); node = 8; blocks = Some (codes "a") } ∷ [] }) ∷ File ∷ File ∷ Nothing ∷ File ∷ Dir (record { shown = ((codes "a"), 16) ∷ ((codes "b"), 12) ∷ ((codes "c"), 15) ∷ []; foreign = record { lower = (codes "#"); node = 11; blocks = None } ∷ [] }) ∷ Nothing ∷ Dir (record { shown = ((codes "b"), 14) ∷ []; foreign = record { lower = (codes "#"); node = 13; blocks = None } ∷ [] }) ∷ Nothing ∷ File ∷ File ∷ Dir (record { shown = ((codes "a"), 17) ∷ ((codes "b"), 18) ∷ []; foreign = [] }) ∷ File ∷ File ∷ [] }) (calls.Rename (record { old = []; new = (codes "c") ∷ (codes "a") ∷ (codes "abcde") ∷ [] })) ≡ record { reply = replies.Refused refusals.NameLong; tree = record { limit = 4; places = Dir (record { shown = ((codes "a"), 1) ∷ ((codes "b"), 10) ∷ ((codes "c"), 2) ∷ []; foreign = [] }) ∷ File ∷ Dir (record { shown = ((codes "a"), 3) ∷ ((codes "b"), 4) ∷ ((codes "c"), 5) ∷ []; foreign = [] }) ∷ File ∷ Dir (record { shown = []; foreign = [] }) ∷ Dir (record { shown = ((codes "a"), 6) ∷ ((codes "b"), 7) ∷ ((codes "c"), 9) ∷ []; foreign = record { lower = (codes "~a"); node = 8; blocks = Some (codes "a") } ∷ [] }) ∷ File ∷ File ∷ Nothing ∷ File ∷ Dir (record { shown = ((codes "a"), 16) ∷ ((codes "b"), 12) ∷ ((codes "c"), 15) ∷ []; foreign = record { lower = (codes "#"); node = 11; blocks = None } ∷ [] }) ∷ Nothing ∷ Dir (record { shown = ((codes "b"), 14) ∷ []; foreign = record { lower = (codes "#"); node = 13; blocks = None } ∷ [] }) ∷ Nothing ∷ File ∷ File ∷ Dir (record { shown = ((codes "a"), 17) ∷ ((codes "b"), 18) ∷ []; foreign = [] }) ∷ File ∷ File ∷ [] } }
step_39 = refl

-- rename err namelong
step_40 : step (record { limit = 4; places = Dir (record { shown = ((codes "b"), 1) ∷ ((codes "c"), 2) ∷ []; foreign = [] }) ∷ File ∷ File ∷ [] }) (calls.Rename (record { old = []; new = (codes "abcde") ∷ [] })) ≡ record { reply = replies.Refused refusals.NameLong; tree = record { limit = 4; places = Dir (record { shown = ((codes "b"), 1) ∷ ((codes "c"), 2) ∷ []; foreign = [] }) ∷ File ∷ File ∷ [] } }
step_40 = refl

-- rmdir done
step_41 : step (record { limit = 4; places = Dir (record { shown = ((codes "b"), 2) ∷ ((codes "c"), 5) ∷ []; foreign = record { lower = (codes "#"); node = 1; blocks = None } ∷ record { lower = (codes "~c"); node = 17; blocks = Some (codes "c") } ∷ [] }) ∷ Nothing ∷ Dir (record { shown = ((codes "a"), 4) ∷ ((codes "c"), 3) ∷ []; foreign = [] }) ∷ Dir (record { shown = []; foreign = [] }) ∷ File ∷ Dir (record { shown = ((codes "a"), 11) ∷ ((codes "b"), 16) ∷ []; foreign = record { lower = (codes "#"); node = 6; blocks = None } ∷ [] }) ∷ Nothing ∷ Nothing ∷ Nothing ∷ Nothing ∷ Nothing ∷ Dir (record { shown = ((codes "a"), 12) ∷ ((codes "c"), 13) ∷ []; foreign = record { lower = (codes "~a"); node = 14; blocks = Some (codes "a") } ∷ record { lower = (codes "~c"); node = 15; blocks = Some (codes "c") } ∷ [] }) ∷ File ∷ File ∷ Nothing ∷ Nothing ∷ Dir (record { shown = []; foreign = [] }) ∷ Nothing ∷ [] }) (calls.Rmdir ((codes "c") ∷ (codes "b") ∷ [])) ≡ record { reply = replies.Done; tree = record { limit = 4; places = Dir (record { shown = ((codes "b"), 2) ∷ ((codes "c"), 5) ∷ []; foreign = record { lower = (codes "#"); node = 1; blocks = None } ∷ record { lower = (codes "~c"); node = 17; blocks = Some (codes "c") } ∷ [] }) ∷ Nothing ∷ Dir (record { shown = ((codes "a"), 4) ∷ ((codes "c"), 3) ∷ []; foreign = [] }) ∷ Dir (record { shown = []; foreign = [] }) ∷ File ∷ Dir (record { shown = ((codes "a"), 11) ∷ []; foreign = record { lower = (codes "#"); node = 6; blocks = None } ∷ [] }) ∷ Nothing ∷ Nothing ∷ Nothing ∷ Nothing ∷ Nothing ∷ Dir (record { shown = ((codes "a"), 12) ∷ ((codes "c"), 13) ∷ []; foreign = record { lower = (codes "~a"); node = 14; blocks = Some (codes "a") } ∷ record { lower = (codes "~c"); node = 15; blocks = Some (codes "c") } ∷ [] }) ∷ File ∷ File ∷ Nothing ∷ Nothing ∷ Nothing ∷ Nothing ∷ [] } }
step_41 = refl
