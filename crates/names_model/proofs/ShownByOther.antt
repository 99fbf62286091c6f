-- What lower trees show, as another implementation computes it, under a form in which two lower names may stand for one upper name.
use Rattle.std.proofs.Common.{◌≡◌, ℕ, ◌==◌, List, [], ◌∷◌, Option, Some, None, refl, if◌then◌else◌}
use Rattle.std.specs.Prelude.{codes}
use Rattle.lower_model.specs.declared.kind.Kind.TheVariants as kinds
use Rattle.tree_model.specs.declared.place.Place.TheVariants.{Dir, File, Nothing}
use Rattle.names_model.specs.NameForm.{NameForm}
use Rattle.names_model.specs.ShownBy.{shown_of}

strip : List ℕ → List ℕ
strip [] = []
strip (c ∷ cs) = if c == 126 then cs else c ∷ cs

upper : List ℕ → Option (List ℕ)
upper [] = None
upper (c ∷ []) = if c == 35 then None else Some (c ∷ [])
upper (c ∷ d ∷ cs) = Some (c ∷ d ∷ cs)

-- a lower name may have a tilde in front, and a written one has; `#` stands for nothing
abbrev tilde : NameForm
tilde = record { longest = 4; upper = λ name. upper (strip name); written = λ name. 126 ∷ name }

-- stat info
lower_4 : shown_of tilde (record { parent = 0; kind = kinds.Dir; name = []; attribute = None; body = [] } ∷ record { parent = 0; kind = kinds.Dir; name = (codes "#"); attribute = None; body = [] } ∷ record { parent = 1; kind = kinds.File; name = (codes "#"); attribute = None; body = [] } ∷ record { parent = 1; kind = kinds.Dir; name = (codes "a"); attribute = None; body = [] } ∷ record { parent = 3; kind = kinds.File; name = (codes "b"); attribute = None; body = [] } ∷ record { parent = 3; kind = kinds.File; name = (codes "~a"); attribute = None; body = [] } ∷ record { parent = 3; kind = kinds.File; name = (codes "~b"); attribute = None; body = [] } ∷ record { parent = 3; kind = kinds.File; name = (codes "~c"); attribute = None; body = [] } ∷ record { parent = 1; kind = kinds.File; name = (codes "~a"); attribute = None; body = [] } ∷ record { parent = 0; kind = kinds.Dir; name = (codes "~a"); attribute = None; body = [] } ∷ []) ≡ record { limit = 4; places = Dir (record { shown = ((codes "a"), 9) ∷ []; foreign = record { lower = (codes "#"); node = 1; blocks = None } ∷ [] }) ∷ Nothing ∷ Nothing ∷ Nothing ∷ Nothing ∷ Nothing ∷ Nothing ∷ Nothing ∷ Nothing ∷ Dir (record { shown = []; foreign = [] }) ∷ [] }
unfolding strip upper
lower_4 = refl

-- create err notdir
lower_5 : shown_of tilde (record { parent = 0; kind = kinds.Dir; name = []; attribute = None; body = [] } ∷ record { parent = 0; kind = kinds.Dir; name = (codes "#"); attribute = None; body = [] } ∷ record { parent = 0; kind = kinds.File; name = (codes "a"); attribute = None; body = [] } ∷ record { parent = 0; kind = kinds.File; name = (codes "c"); attribute = None; body = [] } ∷ record { parent = 0; kind = kinds.Dir; name = (codes "~c"); attribute = None; body = [] } ∷ record { parent = 4; kind = kinds.File; name = (codes "#"); attribute = None; body = [] } ∷ record { parent = 4; kind = kinds.Dir; name = (codes "b"); attribute = None; body = [] } ∷ record { parent = 6; kind = kinds.File; name = (codes "b"); attribute = None; body = [] } ∷ record { parent = 4; kind = kinds.File; name = (codes "~a"); attribute = None; body = [] } ∷ record { parent = 4; kind = kinds.File; name = (codes "~c"); attribute = None; body = [] } ∷ []) ≡ record { limit = 4; places = Dir (record { shown = ((codes "a"), 2) ∷ ((codes "c"), 3) ∷ []; foreign = record { lower = (codes "#"); node = 1; blocks = None } ∷ record { lower = (codes "~c"); node = 4; blocks = Some (codes "c") } ∷ [] }) ∷ Nothing ∷ File ∷ File ∷ Nothing ∷ Nothing ∷ Nothing ∷ Nothing ∷ Nothing ∷ Nothing ∷ [] }
unfolding strip upper
lower_5 = refl

-- list err notfound
lower_6 : shown_of tilde (record { parent = 0; kind = kinds.Dir; name = []; attribute = None; body = [] } ∷ record { parent = 0; kind = kinds.File; name = (codes "#"); attribute = None; body = [] } ∷ record { parent = 0; kind = kinds.File; name = (codes "c"); attribute = None; body = [] } ∷ []) ≡ record { limit = 4; places = Dir (record { shown = ((codes "c"), 2) ∷ []; foreign = record { lower = (codes "#"); node = 1; blocks = None } ∷ [] }) ∷ Nothing ∷ File ∷ [] }
unfolding strip upper
lower_6 = refl

-- create err exists
lower_7 : shown_of tilde (record { parent = 0; kind = kinds.Dir; name = []; attribute = None; body = [] } ∷ record { parent = 0; kind = kinds.File; name = (codes "a"); attribute = None; body = [] } ∷ record { parent = 0; kind = kinds.Dir; name = (codes "b"); attribute = None; body = [] } ∷ record { parent = 0; kind = kinds.Dir; name = (codes "~a"); attribute = None; body = [] } ∷ record { parent = 3; kind = kinds.File; name = (codes "#"); attribute = None; body = [] } ∷ record { parent = 3; kind = kinds.File; name = (codes "a"); attribute = None; body = [] } ∷ record { parent = 3; kind = kinds.File; name = (codes "~c"); attribute = None; body = [] } ∷ []) ≡ record { limit = 4; places = Dir (record { shown = ((codes "a"), 1) ∷ ((codes "b"), 2) ∷ []; foreign = record { lower = (codes "~a"); node = 3; blocks = Some (codes "a") } ∷ [] }) ∷ File ∷ Dir (record { shown = []; foreign = [] }) ∷ Nothing ∷ Nothing ∷ Nothing ∷ Nothing ∷ [] }
unfolding strip upper
lower_7 = refl

-- rename err notfound
lower_10 : shown_of tilde (record { parent = 0; kind = kinds.Dir; name = []; attribute = None; body = [] } ∷ record { parent = 0; kind = kinds.File; name = (codes "a"); attribute = None; body = [] } ∷ record { parent = 0; kind = kinds.File; name = (codes "~b"); attribute = None; body = [] } ∷ []) ≡ record { limit = 4; places = Dir (record { shown = ((codes "a"), 1) ∷ ((codes "b"), 2) ∷ []; foreign = [] }) ∷ File ∷ File ∷ [] }
unfolding strip upper
lower_10 = refl

-- rename done
lower_11 : shown_of tilde (record { parent = 0; kind = kinds.Dir; name = []; attribute = None; body = [] } ∷ record { parent = 0; kind = kinds.File; name = (codes "#"); attribute = None; body = [] } ∷ record { parent = 0; kind = kinds.Dir; name = (codes "~a"); attribute = None; body = [] } ∷ record { parent = 0; kind = kinds.File; name = (codes "~b"); attribute = None; body = [] } ∷ record { parent = 0; kind = kinds.Dir; name = (codes "~c"); attribute = None; body = [] } ∷ record { parent = 4; kind = kinds.Dir; name = (codes "#"); attribute = None; body = [] } ∷ record { parent = 5; kind = kinds.File; name = (codes "c"); attribute = None; body = [] } ∷ record { parent = 5; kind = kinds.File; name = (codes "~b"); attribute = None; body = [] } ∷ record { parent = 5; kind = kinds.File; name = (codes "~c"); attribute = None; body = [] } ∷ record { parent = 4; kind = kinds.File; name = (codes "~a"); attribute = None; body = [] } ∷ record { parent = 4; kind = kinds.Dir; name = (codes "~b"); attribute = None; body = [] } ∷ record { parent = 10; kind = kinds.File; name = (codes "#"); attribute = None; body = [] } ∷ record { parent = 10; kind = kinds.File; name = (codes "a"); attribute = None; body = [] } ∷ record { parent = 10; kind = kinds.File; name = (codes "~c"); attribute = None; body = [] } ∷ []) ≡ record { limit = 4; places = Dir (record { shown = ((codes "a"), 2) ∷ ((codes "b"), 3) ∷ ((codes "c"), 4) ∷ []; foreign = record { lower = (codes "#"); node = 1; blocks = None } ∷ [] }) ∷ Nothing ∷ Dir (record { shown = []; foreign = [] }) ∷ File ∷ Dir (record { shown = ((codes "a"), 9) ∷ ((codes "b"), 10) ∷ []; foreign = record { lower = (codes "#"); node = 5; blocks = None } ∷ [] }) ∷ Nothing ∷ Nothing ∷ Nothing ∷ Nothing ∷ File ∷ Dir (record { shown = ((codes "a"), 12) ∷ ((codes "c"), 13) ∷ []; foreign = record { lower = (codes "#"); node = 11; blocks = None } ∷ [] }) ∷ Nothing ∷ File ∷ File ∷ [] }
unfolding strip upper
lower_11 = refl

-- rename err inside
lower_12 : shown_of tilde (record { parent = 0; kind = kinds.Dir; name = []; attribute = None; body = [] } ∷ record { parent = 0; kind = kinds.Dir; name = (codes "b"); attribute = None; body = [] } ∷ record { parent = 1; kind = kinds.Dir; name = (codes "~a"); attribute = None; body = [] } ∷ record { parent = 2; kind = kinds.File; name = (codes "a"); attribute = None; body = [] } ∷ record { parent = 2; kind = kinds.File; name = (codes "~c"); attribute = None; body = [] } ∷ record { parent = 1; kind = kinds.Dir; name = (codes "~c"); attribute = None; body = [] } ∷ record { parent = 5; kind = kinds.File; name = (codes "~b"); attribute = None; body = [] } ∷ record { parent = 0; kind = kinds.File; name = (codes "c"); attribute = None; body = [] } ∷ []) ≡ record { limit = 4; places = Dir (record { shown = ((codes "b"), 1) ∷ ((codes "c"), 7) ∷ []; foreign = [] }) ∷ Dir (record { shown = ((codes "a"), 2) ∷ ((codes "c"), 5) ∷ []; foreign = [] }) ∷ Dir (record { shown = ((codes "a"), 3) ∷ ((codes "c"), 4) ∷ []; foreign = [] }) ∷ File ∷ File ∷ Dir (record { shown = ((codes "b"), 6) ∷ []; foreign = [] }) ∷ File ∷ File ∷ [] }
unfolding strip upper
lower_12 = refl

-- rmdir err notdir
lower_14 : shown_of tilde (record { parent = 0; kind = kinds.Dir; name = []; attribute = None; body = [] } ∷ record { parent = 0; kind = kinds.File; name = (codes "a"); attribute = None; body = [] } ∷ record { parent = 0; kind = kinds.File; name = (codes "~c"); attribute = None; body = [] } ∷ []) ≡ record { limit = 4; places = Dir (record { shown = ((codes "a"), 1) ∷ ((codes "c"), 2) ∷ []; foreign = [] }) ∷ File ∷ File ∷ [] }
unfolding strip upper
lower_14 = refl

-- rename err isdir
lower_16 : shown_of tilde (record { parent = 0; kind = kinds.Dir; name = []; attribute = None; body = [] } ∷ record { parent = 0; kind = kinds.Dir; name = (codes "~b"); attribute = None; body = [] } ∷ record { parent = 1; kind = kinds.Dir; name = (codes "c"); attribute = None; body = [] } ∷ record { parent = 2; kind = kinds.File; name = (codes "~a"); attribute = None; body = [] } ∷ record { parent = 0; kind = kinds.Dir; name = (codes "~c"); attribute = None; body = [] } ∷ []) ≡ record { limit = 4; places = Dir (record { shown = ((codes "b"), 1) ∷ ((codes "c"), 4) ∷ []; foreign = [] }) ∷ Dir (record { shown = ((codes "c"), 2) ∷ []; foreign = [] }) ∷ Dir (record { shown = ((codes "a"), 3) ∷ []; foreign = [] }) ∷ File ∷ Dir (record { shown = []; foreign = [] }) ∷ [] }
unfolding strip upper
lower_16 = refl

-- stat err notdir
lower_17 : shown_of tilde (record { parent = 0; kind = kinds.Dir; name = []; attribute = None; body = [] } ∷ record { parent = 0; kind = kinds.File; name = (codes "b"); attribute = None; body = [] } ∷ record { parent = 0; kind = kinds.File; name = (codes "~b"); attribute = None; body = [] } ∷ []) ≡ record { limit = 4; places = Dir (record { shown = ((codes "b"), 1) ∷ []; foreign = record { lower = (codes "~b"); node = 2; blocks = Some (codes "b") } ∷ [] }) ∷ File ∷ Nothing ∷ [] }
unfolding strip upper
lower_17 = refl

-- rename err isdir
lower_18 : shown_of tilde (record { parent = 0; kind = kinds.Dir; name = []; attribute = None; body = [] } ∷ record { parent = 0; kind = kinds.File; name = (codes "c"); attribute = None; body = [] } ∷ record { parent = 0; kind = kinds.Dir; name = (codes "~b"); attribute = None; body = [] } ∷ []) ≡ record { limit = 4; places = Dir (record { shown = ((codes "b"), 2) ∷ ((codes "c"), 1) ∷ []; foreign = [] }) ∷ File ∷ Dir (record { shown = []; foreign = [] }) ∷ [] }
unfolding strip upper
lower_18 = refl

-- resolve err isdir
lower_19 : shown_of tilde (record { parent = 0; kind = kinds.Dir; name = []; attribute = None; body = [] } ∷ record { parent = 0; kind = kinds.File; name = (codes "c"); attribute = None; body = [] } ∷ record { parent = 0; kind = kinds.Dir; name = (codes "~c"); attribute = None; body = [] } ∷ record { parent = 2; kind = kinds.Dir; name = (codes "c"); attribute = None; body = [] } ∷ record { parent = 2; kind = kinds.File; name = (codes "~a"); attribute = None; body = [] } ∷ []) ≡ record { limit = 4; places = Dir (record { shown = ((codes "c"), 1) ∷ []; foreign = record { lower = (codes "~c"); node = 2; blocks = Some (codes "c") } ∷ [] }) ∷ File ∷ Nothing ∷ Nothing ∷ Nothing ∷ [] }
unfolding strip upper
lower_19 = refl

-- rename err isroot
lower_20 : shown_of tilde (record { parent = 0; kind = kinds.Dir; name = []; attribute = None; body = [] } ∷ record { parent = 0; kind = kinds.Dir; name = (codes "#"); attribute = None; body = [] } ∷ record { parent = 0; kind = kinds.Dir; name = (codes "c"); attribute = None; body = [] } ∷ record { parent = 2; kind = kinds.Dir; name = (codes "#"); attribute = None; body = [] } ∷ record { parent = 2; kind = kinds.Dir; name = (codes "~a"); attribute = None; body = [] } ∷ record { parent = 0; kind = kinds.File; name = (codes "~a"); attribute = None; body = [] } ∷ record { parent = 0; kind = kinds.File; name = (codes "~c"); attribute = None; body = [] } ∷ []) ≡ record { limit = 4; places = Dir (record { shown = ((codes "a"), 5) ∷ ((codes "c"), 2) ∷ []; foreign = record { lower = (codes "#"); node = 1; blocks = None } ∷ record { lower = (codes "~c"); node = 6; blocks = Some (codes "c") } ∷ [] }) ∷ Nothing ∷ Dir (record { shown = ((codes "a"), 4) ∷ []; foreign = record { lower = (codes "#"); node = 3; blocks = None } ∷ [] }) ∷ Nothing ∷ Dir (record { shown = []; foreign = [] }) ∷ File ∷ Nothing ∷ [] }
unfolding strip upper
lower_20 = refl

-- mkdir err exists
lower_21 : shown_of tilde (record { parent = 0; kind = kinds.Dir; name = []; attribute = None; body = [] } ∷ record { parent = 0; kind = kinds.File; name = (codes "a"); attribute = None; body = [] } ∷ record { parent = 0; kind = kinds.Dir; name = (codes "c"); attribute = None; body = [] } ∷ record { parent = 0; kind = kinds.Dir; name = (codes "~b"); attribute = None; body = [] } ∷ record { parent = 3; kind = kinds.Dir; name = (codes "#"); attribute = None; body = [] } ∷ []) ≡ record { limit = 4; places = Dir (record { shown = ((codes "a"), 1) ∷ ((codes "b"), 3) ∷ ((codes "c"), 2) ∷ []; foreign = [] }) ∷ File ∷ Dir (record { shown = []; foreign = [] }) ∷ Dir (record { shown = []; foreign = record { lower = (codes "#"); node = 4; blocks = None } ∷ [] }) ∷ Nothing ∷ [] }
unfolding strip upper
lower_21 = refl

-- rmdir err notfound
lower_22 : shown_of tilde (record { parent = 0; kind = kinds.Dir; name = []; attribute = None; body = [] } ∷ record { parent = 0; kind = kinds.File; name = (codes "#"); attribute = None; body = [] } ∷ record { parent = 0; kind = kinds.Dir; name = (codes "b"); attribute = None; body = [] } ∷ record { parent = 0; kind = kinds.File; name = (codes "c"); attribute = None; body = [] } ∷ []) ≡ record { limit = 4; places = Dir (record { shown = ((codes "b"), 2) ∷ ((codes "c"), 3) ∷ []; foreign = record { lower = (codes "#"); node = 1; blocks = None } ∷ [] }) ∷ Nothing ∷ Dir (record { shown = []; foreign = [] }) ∷ File ∷ [] }
unfolding strip upper
lower_22 = refl

-- mkdir err isroot
lower_24 : shown_of tilde (record { parent = 0; kind = kinds.Dir; name = []; attribute = None; body = [] } ∷ record { parent = 0; kind = kinds.Dir; name = (codes "#"); attribute = None; body = [] } ∷ record { parent = 1; kind = kinds.File; name = (codes "#"); attribute = None; body = [] } ∷ record { parent = 1; kind = kinds.File; name = (codes "b"); attribute = None; body = [] } ∷ record { parent = 1; kind = kinds.Dir; name = (codes "~c"); attribute = None; body = [] } ∷ record { parent = 4; kind = kinds.File; name = (codes "a"); attribute = None; body = [] } ∷ record { parent = 4; kind = kinds.File; name = (codes "~a"); attribute = None; body = [] } ∷ record { parent = 0; kind = kinds.File; name = (codes "~b"); attribute = None; body = [] } ∷ record { parent = 0; kind = kinds.File; name = (codes "~c"); attribute = None; body = [] } ∷ []) ≡ record { limit = 4; places = Dir (record { shown = ((codes "b"), 7) ∷ ((codes "c"), 8) ∷ []; foreign = record { lower = (codes "#"); node = 1; blocks = None } ∷ [] }) ∷ Nothing ∷ Nothing ∷ Nothing ∷ Nothing ∷ Nothing ∷ Nothing ∷ File ∷ File ∷ [] }
unfolding strip upper
lower_24 = refl

-- stat err notfound
lower_25 : shown_of tilde (record { parent = 0; kind = kinds.Dir; name = []; attribute = None; body = [] } ∷ record { parent = 0; kind = kinds.File; name = (codes "#"); attribute = None; body = [] } ∷ record { parent = 0; kind = kinds.Dir; name = (codes "a"); attribute = None; body = [] } ∷ record { parent = 2; kind = kinds.Dir; name = (codes "b"); attribute = None; body = [] } ∷ record { parent = 3; kind = kinds.File; name = (codes "a"); attribute = None; body = [] } ∷ record { parent = 2; kind = kinds.Dir; name = (codes "~a"); attribute = None; body = [] } ∷ record { parent = 5; kind = kinds.File; name = (codes "#"); attribute = None; body = [] } ∷ record { parent = 5; kind = kinds.File; name = (codes "c"); attribute = None; body = [] } ∷ record { parent = 5; kind = kinds.File; name = (codes "~a"); attribute = None; body = [] } ∷ record { parent = 5; kind = kinds.File; name = (codes "~b"); attribute = None; body = [] } ∷ record { parent = 0; kind = kinds.File; name = (codes "~a"); attribute = None; body = [] } ∷ record { parent = 0; kind = kinds.Dir; name = (codes "~b"); attribute = None; body = [] } ∷ record { parent = 11; kind = kinds.File; name = (codes "#"); attribute = None; body = [] } ∷ record { parent = 11; kind = kinds.File; name = (codes "b"); attribute = None; body = [] } ∷ []) ≡ record { limit = 4; places = Dir (record { shown = ((codes "a"), 2) ∷ ((codes "b"), 11) ∷ []; foreign = record { lower = (codes "#"); node = 1; blocks = None } ∷ record { lower = (codes "~a"); node = 10; blocks = Some (codes "a") } ∷ [] }) ∷ Nothing ∷ Dir (record { shown = ((codes "a"), 5) ∷ ((codes "b"), 3) ∷ []; foreign = [] }) ∷ Dir (record { shown = ((codes "a"), 4) ∷ []; foreign = [] }) ∷ File ∷ Dir (record { shown = ((codes "a"), 8) ∷ ((codes "b"), 9) ∷ ((codes "c"), 7) ∷ []; foreign = record { lower = (codes "#"); node = 6; blocks = None } ∷ [] }) ∷ Nothing ∷ File ∷ File ∷ File ∷ Nothing ∷ Dir (record { shown = ((codes "b"), 13) ∷ []; foreign = record { lower = (codes "#"); node = 12; blocks = None } ∷ [] }) ∷ Nothing ∷ File ∷ [] }
unfolding strip upper
lower_25 = refl

-- rename err notempty
lower_26 : shown_of tilde (record { parent = 0; kind = kinds.Dir; name = []; attribute = None; body = [] } ∷ record { parent = 0; kind = kinds.Dir; name = (codes "c"); attribute = None; body = [] } ∷ record { parent = 1; kind = kinds.File; name = (codes "a"); attribute = None; body = [] } ∷ record { parent = 0; kind = kinds.Dir; name = (codes "~a"); attribute = None; body = [] } ∷ record { parent = 3; kind = kinds.Dir; name = (codes "a"); attribute = None; body = [] } ∷ record { parent = 4; kind = kinds.File; name = (codes "#"); attribute = None; body = [] } ∷ record { parent = 3; kind = kinds.Dir; name = (codes "c"); attribute = None; body = [] } ∷ record { parent = 3; kind = kinds.Dir; name = (codes "~a"); attribute = None; body = [] } ∷ record { parent = 7; kind = kinds.File; name = (codes "a"); attribute = None; body = [] } ∷ record { parent = 7; kind = kinds.File; name = (codes "~b"); attribute = None; body = [] } ∷ record { parent = 7; kind = kinds.File; name = (codes "~c"); attribute = None; body = [] } ∷ []) ≡ record { limit = 4; places = Dir (record { shown = ((codes "a"), 3) ∷ ((codes "c"), 1) ∷ []; foreign = [] }) ∷ Dir (record { shown = ((codes "a"), 2) ∷ []; foreign = [] }) ∷ File ∷ Dir (record { shown = ((codes "a"), 4) ∷ ((codes "c"), 6) ∷ []; foreign = record { lower = (codes "~a"); node = 7; blocks = Some (codes "a") } ∷ [] }) ∷ Dir (record { shown = []; foreign = record { lower = (codes "#"); node = 5; blocks = None } ∷ [] }) ∷ Nothing ∷ Dir (record { shown = []; foreign = [] }) ∷ Nothing ∷ Nothing ∷ Nothing ∷ Nothing ∷ [] }
unfolding strip upper
lower_26 = refl

-- rename err inside
lower_27 : shown_of tilde (record { parent = 0; kind = kinds.Dir; name = []; attribute = None; body = [] } ∷ record { parent = 0; kind = kinds.File; name = (codes "#"); attribute = None; body = [] } ∷ record { parent = 0; kind = kinds.Dir; name = (codes "~b"); attribute = None; body = [] } ∷ record { parent = 2; kind = kinds.Dir; name = (codes "#"); attribute = None; body = [] } ∷ record { parent = 2; kind = kinds.File; name = (codes "a"); attribute = None; body = [] } ∷ []) ≡ record { limit = 4; places = Dir (record { shown = ((codes "b"), 2) ∷ []; foreign = record { lower = (codes "#"); node = 1; blocks = None } ∷ [] }) ∷ Nothing ∷ Dir (record { shown = ((codes "a"), 4) ∷ []; foreign = record { lower = (codes "#"); node = 3; blocks = None } ∷ [] }) ∷ Nothing ∷ File ∷ [] }
unfolding strip upper
lower_27 = refl

-- mkdir err notdir
lower_30 : shown_of tilde (record { parent = 0; kind = kinds.Dir; name = []; attribute = None; body = [] } ∷ record { parent = 0; kind = kinds.Dir; name = (codes "#"); attribute = None; body = [] } ∷ record { parent = 1; kind = kinds.Dir; name = (codes "b"); attribute = None; body = [] } ∷ record { parent = 2; kind = kinds.File; name = (codes "#"); attribute = None; body = [] } ∷ record { parent = 2; kind = kinds.File; name = (codes "a"); attribute = None; body = [] } ∷ record { parent = 2; kind = kinds.File; name = (codes "b"); attribute = None; body = [] } ∷ record { parent = 2; kind = kinds.File; name = (codes "~b"); attribute = None; body = [] } ∷ record { parent = 1; kind = kinds.File; name = (codes "c"); attribute = None; body = [] } ∷ record { parent = 1; kind = kinds.Dir; name = (codes "~c"); attribute = None; body = [] } ∷ record { parent = 8; kind = kinds.File; name = (codes "a"); attribute = None; body = [] } ∷ record { parent = 8; kind = kinds.File; name = (codes "~a"); attribute = None; body = [] } ∷ record { parent = 0; kind = kinds.File; name = (codes "b"); attribute = None; body = [] } ∷ record { parent = 0; kind = kinds.Dir; name = (codes "c"); attribute = None; body = [] } ∷ record { parent = 12; kind = kinds.Dir; name = (codes "a"); attribute = None; body = [] } ∷ record { parent = 13; kind = kinds.File; name = (codes "#"); attribute = None; body = [] } ∷ record { parent = 13; kind = kinds.File; name = (codes "b"); attribute = None; body = [] } ∷ record { parent = 13; kind = kinds.File; name = (codes "c"); attribute = None; body = [] } ∷ record { parent = 12; kind = kinds.Dir; name = (codes "~a"); attribute = None; body = [] } ∷ record { parent = 17; kind = kinds.File; name = (codes "a"); attribute = None; body = [] } ∷ record { parent = 17; kind = kinds.File; name = (codes "~a"); attribute = None; body = [] } ∷ record { parent = 17; kind = kinds.File; name = (codes "~c"); attribute = None; body = [] } ∷ []) ≡ record { limit = 4; places = Dir (record { shown = ((codes "b"), 11) ∷ ((codes "c"), 12) ∷ []; foreign = record { lower = (codes "#"); node = 1; blocks = None } ∷ [] }) ∷ Nothing ∷ Nothing ∷ Nothing ∷ Nothing ∷ Nothing ∷ Nothing ∷ Nothing ∷ Nothing ∷ Nothing ∷ Nothing ∷ File ∷ Dir (record { shown = ((codes "a"), 13) ∷ []; foreign = record { lower = (codes "~a"); node = 17; blocks = Some (codes "a") } ∷ [] }) ∷ Dir (record { shown = ((codes "b"), 15) ∷ ((codes "c"), 16) ∷ []; foreign = record { lower = (codes "#"); node = 14; blocks = None } ∷ [] }) ∷ Nothing ∷ File ∷ File ∷ Nothing ∷ Nothing ∷ Nothing ∷ Nothing ∷ [] }
unfolding strip upper
lower_30 = refl

-- unlink err notdir
lower_33 : shown_of tilde (record { parent = 0; kind = kinds.Dir; name = []; attribute = None; body = [] } ∷ record { parent = 0; kind = kinds.Dir; name = (codes "c"); attribute = None; body = [] } ∷ record { parent = 0; kind = kinds.File; name = (codes "~a"); attribute = None; body = [] } ∷ []) ≡ record { limit = 4; places = Dir (record { shown = ((codes "a"), 2) ∷ ((codes "c"), 1) ∷ []; foreign = [] }) ∷ Dir (record { shown = []; foreign = [] }) ∷ File ∷ [] }
unfolding strip upper
lower_33 = refl

-- resolve err notfound
lower_34 : shown_of tilde (record { parent = 0; kind = kinds.Dir; name = []; attribute = None; body = [] } ∷ record { parent = 0; kind = kinds.Dir; name = (codes "#"); attribute = None; body = [] } ∷ record { parent = 0; kind = kinds.Dir; name = (codes "a"); attribute = None; body = [] } ∷ record { parent = 0; kind = kinds.Dir; name = (codes "b"); attribute = None; body = [] } ∷ []) ≡ record { limit = 4; places = Dir (record { shown = ((codes "a"), 2) ∷ ((codes "b"), 3) ∷ []; foreign = record { lower = (codes "#"); node = 1; blocks = None } ∷ [] }) ∷ Nothing ∷ Dir (record { shown = []; foreign = [] }) ∷ Dir (record { shown = []; foreign = [] }) ∷ [] }
unfolding strip upper
lower_34 = refl

-- unlink err notfound
lower_35 : shown_of tilde (record { parent = 0; kind = kinds.Dir; name = []; attribute = None; body = [] } ∷ record { parent = 0; kind = kinds.Dir; name = (codes "b"); attribute = None; body = [] } ∷ record { parent = 0; kind = kinds.Dir; name = (codes "~c"); attribute = None; body = [] } ∷ []) ≡ record { limit = 4; places = Dir (record { shown = ((codes "b"), 1) ∷ ((codes "c"), 2) ∷ []; foreign = [] }) ∷ Dir (record { shown = []; foreign = [] }) ∷ Dir (record { shown = []; foreign = [] }) ∷ [] }
unfolding strip upper
lower_35 = refl

-- create err isroot
lower_37 : shown_of tilde (record { parent = 0; kind = kinds.Dir; name = []; attribute = None; body = [] } ∷ record { parent = 0; kind = kinds.File; name = (codes "b"); attribute = None; body = [] } ∷ record { parent = 0; kind = kinds.File; name = (codes "~b"); attribute = None; body = [] } ∷ []) ≡ record { limit = 4; places = Dir (record { shown = ((codes "b"), 1) ∷ []; foreign = record { lower = (codes "~b"); node = 2; blocks = Some (codes "b") } ∷ [] }) ∷ File ∷ Nothing ∷ [] }
unfolding strip upper
lower_37 = refl

-- resolve err notdir
lower_38 : shown_of tilde (record { parent = 0; kind = kinds.Dir; name = []; attribute = None; body = [] } ∷ record { parent = 0; kind = kinds.File; name = (codes "a"); attribute = None; body = [] } ∷ record { parent = 0; kind = kinds.Dir; name = (codes "c"); attribute = None; body = [] } ∷ record { parent = 2; kind = kinds.Dir; name = (codes "#"); attribute = None; body = [] } ∷ record { parent = 3; kind = kinds.File; name = (codes "#"); attribute = None; body = [] } ∷ record { parent = 3; kind = kinds.File; name = (codes "b"); attribute = None; body = [] } ∷ record { parent = 2; kind = kinds.File; name = (codes "a"); attribute = None; body = [] } ∷ record { parent = 2; kind = kinds.File; name = (codes "c"); attribute = None; body = [] } ∷ record { parent = 2; kind = kinds.File; name = (codes "~a"); attribute = None; body = [] } ∷ record { parent = 0; kind = kinds.File; name = (codes "~a"); attribute = None; body = [] } ∷ record { parent = 0; kind = kinds.File; name = (codes "~b"); attribute = None; body = [] } ∷ []) ≡ record { limit = 4; places = Dir (record { shown = ((codes "a"), 1) ∷ ((codes "b"), 10) ∷ ((codes "c"), 2) ∷ []; foreign = record { lower = (codes "~a"); node = 9; blocks = Some (codes "a") } ∷ [] }) ∷ File ∷ Dir (record { shown = ((codes "a"), 6) ∷ ((codes "c"), 7) ∷ []; foreign = record { lower = (codes "#"); node = 3; blocks = None } ∷ record { lower = (codes "~a"); node = 8; blocks = Some (codes "a") } ∷ [] }) ∷ Nothing ∷ Nothing ∷ Nothing ∷ File ∷ File ∷ Nothing ∷ Nothing ∷ File ∷ [] }
unfolding strip upper
lower_38 = refl

-- rename err namelong
lower_39 : shown_of tilde (record { parent = 0; kind = kinds.Dir; name = []; attribute = None; body = [] } ∷ record { parent = 0; kind = kinds.File; name = (codes "a"); attribute = None; body = [] } ∷ record { parent = 0; kind = kinds.Dir; name = (codes "c"); attribute = None; body = [] } ∷ record { parent = 2; kind = kinds.File; name = (codes "a"); attribute = None; body = [] } ∷ record { parent = 2; kind = kinds.Dir; name = (codes "b"); attribute = None; body = [] } ∷ record { parent = 2; kind = kinds.Dir; name = (codes "~c"); attribute = None; body = [] } ∷ record { parent = 5; kind = kinds.File; name = (codes "a"); attribute = None; body = [] } ∷ record { parent = 5; kind = kinds.File; name = (codes "b"); attribute = None; body = [] } ∷ record { parent = 5; kind = kinds.File; name = (codes "~a"); attribute = None; body = [] } ∷ record { parent = 5; kind = kinds.File; name = (codes "~c"); attribute = None; body = [] } ∷ record { parent = 0; kind = kinds.Dir; name = (codes "~b"); attribute = None; body = [] } ∷ record { parent = 10; kind = kinds.File; name = (codes "#"); attribute = None; body = [] } ∷ record { parent = 10; kind = kinds.Dir; name = (codes "b"); attribute = None; body = [] } ∷ record { parent = 12; kind = kinds.File; name = (codes "#"); attribute = None; body = [] } ∷ record { parent = 12; kind = kinds.File; name = (codes "~b"); attribute = None; body = [] } ∷ record { parent = 10; kind = kinds.File; name = (codes "c"); attribute = None; body = [] } ∷ record { parent = 10; kind = kinds.Dir; name = (codes "~a"); attribute = None; body = [] } ∷ record { parent = 16; kind = kinds.File; name = (codes "a"); attribute = None; body = [] } ∷ record { parent = 16; kind = kinds.File; name = (codes "b"); attribute = None; body = [] } ∷ []) ≡ record { limit = 4; places = Dir (record { shown = ((codes "a"), 1) ∷ ((codes "b"), 10) ∷ ((codes "c"), 2) ∷ []; foreign = [] }) ∷ File ∷ Dir (record { shown = ((codes "a"), 3) ∷ ((codes "b"), 4) ∷ ((codes "c"), 5) ∷ []; foreign = [] }) ∷ File ∷ Dir (record { shown = []; foreign = [] }) ∷ Dir (record { shown = ((codes "a"), 6) ∷ ((codes "b"), 7) ∷ ((codes "c"), 9) ∷ []; foreign = record { lower = (codes "~a"); node = 8; blocks = Some (codes "a") } ∷ [] }) ∷ File ∷ File ∷ Nothing ∷ File ∷ Dir (record { shown = ((codes "a"), 16) ∷ ((codes "b"), 12) ∷ ((codes "c"), 15) ∷ []; foreign = record { lower = (codes "#"); node = 11; blocks = None } ∷ [] }) ∷ Nothing ∷ Dir (record { shown = ((codes "b"), 14) ∷ []; foreign = record { lower = (codes "#"); node = 13; blocks = None } ∷ [] }) ∷ Nothing ∷ File ∷ File ∷ Dir (record { shown = ((codes "a"), 17) ∷ ((codes "b"), 18) ∷ []; foreign = [] }) ∷ File ∷ File ∷ [] }
unfolding strip upper
lower_39 = refl

-- rename err namelong
lower_40 : shown_of tilde (record { parent = 0; kind = kinds.Dir; name = []; attribute = None; body = [] } ∷ record { parent = 0; kind = kinds.File; name = (codes "b"); attribute = None; body = [] } ∷ record { parent = 0; kind = kinds.File; name = (codes "~c"); attribute = None; body = [] } ∷ []) ≡ record { limit = 4; places = Dir (record { shown = ((codes "b"), 1) ∷ ((codes "c"), 2) ∷ []; foreign = [] }) ∷ File ∷ File ∷ [] }
unfolding strip upper
lower_40 = refl
