-- What a run may leave of a lower tree, and what it may not, where a lower name may have a tilde in front, and a written one has.
use Rattle.std.proofs.Common.{◌≡◌, ◌≤◌, ℕ, ◌==◌, Bool, true, false, cond, ◌⊎◌, inl, inr, List, [], ◌∷◌, ◌++◌, Some, None, Result, Ok, Err, IsSome, refl, sym, ap, ap₂, subst, ◌∙◌, if◌then◌else◌, slice_get, option_map, option_and_then, arith}
use Rattle.lower_model.specs.declared.kind.Kind.TheVariants as kinds
use Rattle.lower_model.specs.declared.node.LowerNode.{LowerNode}
use Rattle.lower_model.specs.Name.{is_name}
use Rattle.lower_model.specs.LowerTree.{IsLowerTree}
use Rattle.tree_model.specs.declared.call.TreeRefusal.{TreeRefusal}
use Rattle.tree_model.specs.declared.place.ForeignEntry.{ForeignEntry}
use Rattle.tree_model.specs.declared.place.Directory.{Directory}
use Rattle.tree_model.specs.declared.place.Place.{Place}
use Rattle.tree_model.specs.declared.place.Place.TheVariants.{Dir, File, Nothing}
use Rattle.tree_model.specs.Names.{is_named, node_of}
use Rattle.tree_model.specs.Walk.{walk, kind_of, found, ◌>>=◌}
use Rattle.tree_model.specs.PlainTree.{PlainTree}
use Rattle.tree_model.proofs.NameLemmas.{is_named_is}
use Rattle.body_model.specs.LowerFile.{LowerFile}
use Rattle.names_model.specs.declared.entry.Linked.{Linked}
use Rattle.names_model.specs.NameForm.{NameForm}
use Rattle.names_model.specs.LowerPaths.{tree_paths, kind_of_thing, thing_at, files_of, paths_below}
use Rattle.names_model.specs.LowerPaths as paths
use Rattle.names_model.specs.LowerPaths.LowerThing.{Holds}
use Rattle.names_model.specs.ShownBy.{shown_of}
use Rattle.names_model.specs.CarriedBy.{Among, lower_path, name_in, CarriesDirectory, AreNames, Leaves}

-- a lower name may have a tilde in front, and a written one has; written names have one octet
abbrev strip : List ℕ → List ℕ
strip [] = []
strip (c ∷ cs) = if c == 126 then cs else c ∷ cs

abbrev wave : NameForm
wave = record { longest = 1; upper = λ lower. if is_name (strip lower) then Some (strip lower) else None; written = λ name. 126 ∷ name }

abbrev top : LowerNode
top = record { parent = 0; kind = kinds.Dir; name = []; attribute = None; body = [] }

abbrev file : ℕ → List ℕ → LowerNode
file parent name = record { parent = parent; kind = kinds.File; name = name; attribute = None; body = [] }

abbrev dir : ℕ → List ℕ → LowerNode
dir parent name = record { parent = parent; kind = kinds.Dir; name = name; attribute = None; body = [] }

-- ---- walks

same_ok : (m n : ℕ) (r : Result ℕ TreeRefusal) → r ≡ Ok m → r ≡ Ok n → m ≡ n
same_ok m n r g h = cc

no_ok : (e : TreeRefusal) (n : ℕ) (r : Result ℕ TreeRefusal) → r ≡ Err e → r ≡ Ok n → ⊥
no_ok e n r g h = cc

cond_some : (b : Bool) (m n : ℕ) → cond b (Some m) None ≡ Some n → (b ≡ true) × (m ≡ n)
cond_some true m n h = (refl, (let e : m ≡ n = cc in e))
cond_some false m n h = absurd cc

entry_is : (x y : List ℕ) (m n : ℕ) → node_of y ((x, m) ∷ []) ≡ Some n → (y ≡ x) × (m ≡ n)
entry_is x y m n h = let w : (is_named y x ≡ true) × (m ≡ n) = cond_some (is_named y x) m n h in (is_named_is y x w.0, w.1)

-- a root with one file
abbrev pl : List ℕ → List ForeignEntry → List Place → List Place
pl x fs rest = Dir (record { shown = (x, 1) ∷ []; foreign = fs }) ∷ File ∷ rest

walk_b : (x : List ℕ) (fs : List ForeignEntry) (rest : List Place) (b : Bool) (path : List (List ℕ)) (n : ℕ)
    → (found (cond b (Some 1) None) >>= λ k. walk (pl x fs rest) k path) ≡ Ok n → (b ≡ true) × (path ≡ []) × (n ≡ 1)
walk_b x fs rest true [] n h = (refl, refl, sym (same_ok 1 n (Ok 1) refl h))
walk_b x fs rest true (y ∷ ys) n h = absurd (no_ok _ n _ refl h)
walk_b x fs rest false path n h = absurd (no_ok _ n _ refl h)

walks : (x : List ℕ) (fs : List ForeignEntry) (rest : List Place) (path : List (List ℕ)) (n : ℕ)
    → walk (pl x fs rest) 0 path ≡ Ok n → ((path ≡ []) × (n ≡ 0)) ⊎ ((path ≡ x ∷ []) × (n ≡ 1))
walks x fs rest [] n h = inl (refl, sym (same_ok 0 n (Ok 0) refl h))
walks x fs rest (y ∷ ys) n h =
    let w : (is_named y x ≡ true) × (ys ≡ []) × (n ≡ 1) = walk_b x fs rest (is_named y x) ys n h in
    inr (ap₂ (λ (a : List ℕ) (rest : List (List ℕ)). a ∷ rest) (is_named_is y x w.0) w.1, w.2)

same_dir : (places : List Place) (k m : ℕ) (d e : Directory) → k ≡ m → slice_get places m ≡ Some (Dir e) → slice_get places k ≡ Some (Dir d) → e ≡ d
same_dir places k m d e same g h = let i : slice_get places m ≡ Some (Dir d) = subst (λ (z : ℕ). slice_get places z ≡ Some (Dir d)) same h in cc

no_dir : (places : List Place) (k m : ℕ) (d : Directory) → k ≡ m → slice_get places m ≡ Some File → slice_get places k ≡ Some (Dir d) → ⊥
no_dir places k m d same g h = let i : slice_get places m ≡ Some (Dir d) = subst (λ (z : ℕ). slice_get places z ≡ Some (Dir d)) same h in cc

no_file : (places : List Place) (k m : ℕ) (d : Directory) → k ≡ m → slice_get places m ≡ Some (Dir d) → slice_get places k ≡ Some File → ⊥
no_file places k m d same g h = let i : slice_get places m ≡ Some File = subst (λ (z : ℕ). slice_get places z ≡ Some File) same h in cc

-- each file holds what it held
abbrev as_it_was : List LowerNode → ℕ → LowerFile → Type 0
as_it_was before n file = file ≡ files_of before n

-- ---- a name longer than the longest: its lower name stays, since nobody writes one for it

abbrev ab : List ℕ
ab = 97 ∷ 98 ∷ []

abbrev wab : List ℕ
wab = 126 ∷ 97 ∷ 98 ∷ []

abbrev before_l : List LowerNode
before_l = top ∷ file 0 ab ∷ []

abbrev after_l : List LowerNode
after_l = top ∷ file 0 wab ∷ []

abbrev d_l : Directory
d_l = record { shown = (ab, 1) ∷ []; foreign = [] }

abbrev end_l : PlainTree
end_l = record { limit = 1; places = pl ab [] [] }

end_is_shown : shown_of wave before_l ≡ end_l
end_is_shown = refl

abbrev after_many : List LowerNode
after_many = top ∷ file 0 ab ∷ file 0 wab ∷ []

lower_of : (names : ℕ → List ℕ) (after : List LowerNode) (y : List ℕ) → CarriesDirectory wave names (tree_paths after) [] d_l → IsSome (tree_paths after (y ∷ [])) → names 1 ≡ y
lower_of names after y c h = elim (c.no_other y h) [
  | inl w ↦ subst (λ (z : ℕ). names z ≡ y) (sym (entry_is ab w.0 1 w.1 w.2).1) w.3
  | inr w ↦ absurd w.1
]

some_is : (x y : List ℕ) → Some x ≡ Some y → x ≡ y
some_is x y h = cc

long_name_written : Leaves wave (as_it_was before_l) before_l end_l after_l → ⊥
long_name_written h =
    let c : CarriesDirectory wave h.names (tree_paths after_l) [] d_l = h.carried.directories [] 0 d_l refl refl in
    let is : h.names 1 ≡ wab = lower_of h.names after_l wab c refl in
    elim (h.named [] 0 d_l ab 1 refl refl refl) [
      | inl w ↦ (let long : 2 ≤ 1 = w.0 in absurd (omega arith))
      | inr w ↦ (let node : Some 1 ≡ Some w.0 = w.1 in
          let one : 1 ≡ w.0 = cc in
          let kept : Some ab ≡ Some (h.names 1) = subst (λ (m : ℕ). name_in (slice_get before_l m) ≡ Some (h.names 1)) (sym one) w.2 in
          let e : ab ≡ wab = some_is ab (h.names 1) kept ∙ is in
          absurd cc)
    ]

too_many : Leaves wave (as_it_was before_l) before_l end_l after_many → ⊥
too_many h =
    let c : CarriesDirectory wave h.names (tree_paths after_many) [] d_l = h.carried.directories [] 0 d_l refl refl in
    let e : ab ≡ wab = sym (lower_of h.names after_many ab c refl) ∙ lower_of h.names after_many wab c refl in
    cc

-- ---- two lower names of one upper name: the second is foreign, and stays with all below it

abbrev a : List ℕ
a = 97 ∷ []

abbrev wa : List ℕ
wa = 126 ∷ 97 ∷ []

abbrev b : List ℕ
b = 98 ∷ []

abbrev before_h : List LowerNode
before_h = top ∷ file 0 a ∷ dir 0 wa ∷ file 2 b ∷ []

abbrev f0 : ForeignEntry
f0 = record { lower = wa; node = 2; blocks = Some a }

abbrev d_h : Directory
d_h = record { shown = (a, 1) ∷ []; foreign = f0 ∷ [] }

abbrev end_h : PlainTree
end_h = record { limit = 1; places = pl a (f0 ∷ []) (Nothing ∷ Nothing ∷ []) }

foreign_is_shown : shown_of wave before_h ≡ end_h
foreign_is_shown = refl

abbrev names_h : ℕ → List ℕ
names_h n = a

is_f0 : (f : ForeignEntry) → Among f (f0 ∷ []) → f ≡ f0
is_f0 f (inl e) = e
is_f0 f (inr e) = absurd e

other_h : (p q : Bool) → IsSome (option_map (thing_at (files_of before_h)) (option_and_then (λ (l : Linked). Some l) (cond p (Some (record { kind = kinds.File; node = 1 })) (cond q (Some (record { kind = kinds.Dir; node = 2 })) None)))) → (p ≡ true) ⊎ (q ≡ true)
other_h true q h = inl refl
other_h false true h = inr refl
other_h false false h = absurd cc

other_is : (y : List ℕ) → (is_named y a ≡ true) ⊎ (is_named y wa ≡ true)
    → ((name : List ℕ) × (n : ℕ) × (node_of name d_h.shown ≡ Some n) × (names_h n ≡ y)) ⊎ ((f : ForeignEntry) × Among f d_h.foreign × (f.lower ≡ y))
other_is y (inl t) = inl (a, 1, refl, sym (is_named_is y a t))
other_is y (inr t) = inr (f0, inl refl, sym (is_named_is y wa t))

differ : wa ≡ a → ⊥
differ g = cc

root_h : CarriesDirectory wave names_h (tree_paths before_h) [] d_h
root_h = record {
  stands = λ name n h. ap (λ (z : List ℕ). Some z) (sym (entry_is a name 1 n h).0);
  foreign = λ f x. rw (is_f0 f x) refl;
  apart = λ name n f h x. λ g. differ (sym (ap (λ (z : ForeignEntry). z.lower) (is_f0 f x)) ∙ g);
  no_other = λ y h. other_is y (other_h (is_named y a) (is_named y wa) h);
}

kinds_h : (path : List (List ℕ)) (n : ℕ) → walk end_h.places 0 path ≡ Ok n → option_map kind_of_thing (tree_paths before_h (lower_path names_h end_h.places 0 path)) ≡ kind_of (slice_get end_h.places n)
kinds_h path n h = elim (walks a (f0 ∷ []) (Nothing ∷ Nothing ∷ []) path n h) [ inl w ↦ rw (w.0, w.1) refl | inr w ↦ rw (w.0, w.1) refl ]

directories_h : (path : List (List ℕ)) (k : ℕ) (d : Directory) → walk end_h.places 0 path ≡ Ok k → slice_get end_h.places k ≡ Some (Dir d)
    → CarriesDirectory wave names_h (tree_paths before_h) (lower_path names_h end_h.places 0 path) d
directories_h path k d h s = elim (walks a (f0 ∷ []) (Nothing ∷ Nothing ∷ []) path k h) [
  | inl w ↦ rw w.0 (subst (λ (z : Directory). CarriesDirectory wave names_h (tree_paths before_h) [] z) (same_dir end_h.places k 0 d d_h w.1 refl s) root_h)
  | inr w ↦ absurd (no_dir end_h.places k 1 d w.1 refl s)
]

files_h : (path : List (List ℕ)) (n : ℕ) → walk end_h.places 0 path ≡ Ok n → slice_get end_h.places n ≡ Some File → tree_paths before_h (lower_path names_h end_h.places 0 path) ≡ Some (Holds (files_of before_h n))
files_h path n h s = elim (walks a (f0 ∷ []) (Nothing ∷ Nothing ∷ []) path n h) [
  | inl w ↦ absurd (no_file end_h.places n 0 d_h w.1 refl s)
  | inr w ↦ rw (w.0, w.1) refl
]

foreign_h : (path : List (List ℕ)) (k : ℕ) (d : Directory) (f : ForeignEntry) → walk end_h.places 0 path ≡ Ok k → slice_get end_h.places k ≡ Some (Dir d) → Among f d.foreign
    → (below : List (List ℕ)) → tree_paths before_h (lower_path names_h end_h.places 0 path ++ f.lower ∷ below) ≡ paths_below before_h f.node below
foreign_h path k d f h s x below = elim (walks a (f0 ∷ []) (Nothing ∷ Nothing ∷ []) path k h) [
  | inl w ↦ (let e : f ≡ f0 = is_f0 f (subst (λ (z : Directory). Among f z.foreign) (sym (same_dir end_h.places k 0 d d_h w.1 refl s)) x) in rw (w.0, e) refl)
  | inr w ↦ absurd (no_dir end_h.places k 1 d w.1 refl s)
]

named_h : AreNames wave end_h names_h before_h
named_h path k d name n h s e = elim (walks a (f0 ∷ []) (Nothing ∷ Nothing ∷ []) path k h) [
  | inl w ↦ (let i : node_of name d_h.shown ≡ Some n = subst (λ (z : Directory). node_of name z.shown ≡ Some n) (sym (same_dir end_h.places k 0 d d_h w.1 refl s)) e in
      inr (1, rw (w.1, (entry_is a name 1 n i).0) refl, refl))
  | inr w ↦ absurd (no_dir end_h.places k 1 d w.1 refl s)
]

lawful_h : IsLowerTree before_h
lawful_h = (
  (refl, refl, refl, refl, refl),
  omega arith,
  (
    record { parent = (refl, refl); within = omega arith; name = refl; octets = (tt, tt, omega arith) },
    (
      record { parent = (refl, refl); within = omega arith; name = refl; octets = (refl, refl) },
      (record { parent = (refl, refl); within = omega arith; name = refl; octets = (tt, tt, omega arith) }, tt),
    ),
  ),
)

honest : Leaves wave (as_it_was before_h) before_h end_h before_h
honest = record {
  lawful = lawful_h;
  names = names_h;
  carried = record { kinds = kinds_h; directories = directories_h };
  files = record { files = λ path n h s. (files_of before_h n, files_h path n h s, refl); foreign = foreign_h };
  named = named_h;
}

-- the file has other octets, though nothing may have changed it
abbrev changed : LowerNode
changed = record { parent = 0; kind = kinds.File; name = a; attribute = None; body = 1 ∷ [] }

abbrev after_change : List LowerNode
after_change = top ∷ changed ∷ dir 0 wa ∷ file 2 b ∷ []

holds_is : (x y : LowerFile) → Some (Holds x) ≡ Some (Holds y) → x ≡ y
holds_is x y h = cc

other_octets : (files_of after_change 1).body ≡ (files_of before_h 1).body → ⊥
other_octets h = cc

changed_file : Leaves wave (as_it_was before_h) before_h end_h after_change → ⊥
changed_file h =
    let is : h.names 1 ≡ a = elim ((h.carried.directories [] 0 d_h refl refl).no_other a refl) [
      | inl w ↦ subst (λ (z : ℕ). h.names z ≡ a) (sym (entry_is a w.0 1 w.1 w.2).1) w.3
      | inr w ↦ absurd (differ (sym (ap (λ (z : ForeignEntry). z.lower) (is_f0 w.0 w.1)) ∙ w.2))
    ] in
    let f = h.files.files (a ∷ []) 1 refl refl in
    let found_file : Some (Holds (files_of after_change 1)) ≡ Some (Holds f.0) = sym (ap (λ (z : List ℕ). tree_paths after_change (z ∷ [])) is) ∙ f.1 in
    let same : files_of after_change 1 ≡ files_of before_h 1 = holds_is (files_of after_change 1) f.0 found_file ∙ f.2 in
    other_octets (ap (λ (file : LowerFile). file.body) same)

-- what is below a foreign entry is lost; the foreign entry has become a file
abbrev after_lost : List LowerNode
after_lost = top ∷ file 0 a ∷ dir 0 wa ∷ []

lost : Leaves wave (as_it_was before_h) before_h end_h after_lost → ⊥
lost h = let e : None ≡ Some (Holds (files_of before_h 3)) = h.files.foreign [] 0 d_h f0 refl refl (inl refl) (b ∷ []) in cc

abbrev after_file : List LowerNode
after_file = top ∷ file 0 a ∷ file 0 wa ∷ []

as_file : Leaves wave (as_it_was before_h) before_h end_h after_file → ⊥
as_file h = let e : Some (Holds (files_of after_file 2)) ≡ Some paths.LowerThing.Directory = h.files.foreign [] 0 d_h f0 refl refl (inl refl) [] in cc
