-- A wrong field begins within the octets, or right behind them where it is cut before its first one.
use Rattle.std.proofs.Common.{◌≡◌, ℕ, zero, suc, ◌+◌, ◌-◌, ◌≤◌, Bool, true, false, cond, ltb, leb, eqb, nat_eq, List, [], ◌∷◌, length, take, drop, Option, Some, None, Result, Ok, Err, subst, arith, length-drop}
use Rattle.std.specs.Prelude.{slice_get, ◌&&◌}
use Rattle.std.specs.List.{starts_with}
use Rattle.std.specs.Int.{Width, w16, w32, byte_len, from_be_bytes}
use Rattle.lower_model.specs.declared.kind.Kind.{Kind}
use Rattle.lower_model.specs.declared.kind.Kind.TheVariants.{Dir, File}
use Rattle.lower_model.specs.declared.node.LowerNode.{LowerNode}
use Rattle.lower_model.specs.declared.node.OpenDir.{OpenDir}
use Rattle.lower_model.specs.Name.{is_name}
use Rattle.lower_model.specs.LowerTree.{comes_before, path_behind, root_path}
use Rattle.image_model.specs.declared.fault.ImageKind.TheVariants as kinds
use Rattle.image_model.specs.ImageText.{magic, root}
use Rattle.answer_model.specs.Answer.{◌>>=◌}
use Rattle.image_model.specs.ImageReading.{FieldFault, Field, wrong, number_at, octets_at, level_at, kind_at, name_at, attribute_at, body_at, file_octets_at, FileOctets, Entry, entry_in, entry_at, entries_at, whole_tree, counted_nodes_at, nodes_at}

-- At most so many octets are behind what was read, or left from the wrong field on.
abbrev LeavesAtMost : {A : Type 0} → (A → ℕ) → ℕ → Result A FieldFault → Type 0
LeavesAtMost behind most (Ok x) = behind x ≤ most
LeavesAtMost behind most (Err f) = f.left ≤ most

-- the octets behind a field
abbrev rest_of : {A : Type 0} → A × List ℕ → ℕ
rest_of x = length x.1

-- nothing is behind a whole image
abbrev nothing_of : List LowerNode → ℕ
nothing_of x = 0

weaker : {A : Type 0} (behind : A → ℕ) (few most : ℕ) (r : Result A FieldFault) → few ≤ most → LeavesAtMost behind few r → LeavesAtMost behind most r
weaker behind few most (Ok x) le h = omega arith
weaker behind few most (Err f) le h = omega arith

next : {A B : Type 0} (behind : A → ℕ) (behind_next : B → ℕ) (most : ℕ) (r : Result A FieldFault) (f : A → Result B FieldFault)
    → LeavesAtMost behind most r → ((x : A) → behind x ≤ most → LeavesAtMost behind_next most (f x)) → LeavesAtMost behind_next most (r >>= f)
next behind behind_next most (Ok x) f h then_h = then_h x h
next behind behind_next most (Err e) f h then_h = h

either : {A : Type 0} (behind : A → ℕ) (most : ℕ) (b : Bool) (x y : Result A FieldFault) → LeavesAtMost behind most x → LeavesAtMost behind most y → LeavesAtMost behind most (cond b x y)
either behind most true x y h i = h
either behind most false x y h i = i

number_leaves : (w : Width) (octets : List ℕ) → LeavesAtMost rest_of (length octets) (number_at w octets)
number_leaves w octets =
    either rest_of (length octets) (ltb (length octets) (byte_len w)) (wrong kinds.Cut octets) (Ok (from_be_bytes w (take (byte_len w) octets), drop (byte_len w) octets)) (omega arith) (omega (arith, length-drop (byte_len w) octets))

octets_leave : (n : ℕ) (octets : List ℕ) → LeavesAtMost rest_of (length octets) (octets_at n octets)
octets_leave n octets = either rest_of (length octets) (ltb (length octets) n) (wrong kinds.Cut octets) (Ok (take n octets, drop n octets)) (omega arith) (omega (arith, length-drop n octets))

level_leaves : (depth : ℕ) (octets : List ℕ) → LeavesAtMost rest_of (length octets) (level_at depth octets)
unfolding level_at
level_leaves depth octets =
    next rest_of rest_of (length octets) (number_at w16 octets) (λ n. cond (ltb 0 n.0 && leb n.0 depth) (Ok (n.0 - 1, n.1)) (wrong kinds.Level octets)) (number_leaves w16 octets)
    (λ n le. either rest_of (length octets) (ltb 0 n.0 && leb n.0 depth) (Ok (n.0 - 1, n.1)) (wrong kinds.Level octets) le (omega arith))

kind_leaves : (octets : List ℕ) → LeavesAtMost rest_of (length octets) (kind_at octets)
unfolding kind_at
kind_leaves [] = omega arith
kind_leaves (zero ∷ rest) = omega arith
kind_leaves (suc zero ∷ rest) = omega arith
kind_leaves (suc (suc b) ∷ rest) = omega arith

name_leaves : (last octets : List ℕ) → LeavesAtMost rest_of (length octets) (name_at last octets)
unfolding name_at
name_leaves last [] = omega arith
name_leaves last (zero ∷ rest) = omega arith
name_leaves last (suc n ∷ rest) =
    weaker rest_of (length rest) (suc (length rest)) (name_at last (suc n ∷ rest)) (omega arith)
    (next rest_of rest_of (length rest) (octets_at (suc n) rest) (λ x. cond (is_name x.0) (cond (comes_before last x.0) (Ok x) (wrong kinds.Order rest)) (wrong kinds.Name rest)) (octets_leave (suc n) rest)
    (λ x le. either rest_of (length rest) (is_name x.0) (cond (comes_before last x.0) (Ok x) (wrong kinds.Order rest)) (wrong kinds.Name rest) (either rest_of (length rest) (comes_before last x.0) (Ok x) (wrong kinds.Order rest) le (omega arith)) (omega arith)))

attribute_leaves : (octets : List ℕ) → LeavesAtMost rest_of (length octets) (attribute_at octets)
unfolding attribute_at
attribute_leaves [] = omega arith
attribute_leaves (zero ∷ rest) = omega arith
attribute_leaves (suc zero ∷ rest) =
    weaker rest_of (length rest) (suc (length rest)) (attribute_at (suc zero ∷ rest)) (omega arith)
    (next rest_of rest_of (length rest) (number_at w32 rest) (λ n. cond (leb n.0 65536) (octets_at n.0 n.1 >>= λ a. Ok (Some a.0, a.1)) (wrong kinds.AttributeLength rest)) (number_leaves w32 rest)
    (λ n le. either rest_of (length rest) (leb n.0 65536) (octets_at n.0 n.1 >>= λ a. Ok (Some a.0, a.1)) (wrong kinds.AttributeLength rest)
    (next rest_of rest_of (length rest) (octets_at n.0 n.1) (λ a. Ok (Some a.0, a.1)) (weaker rest_of (length n.1) (length rest) (octets_at n.0 n.1) le (octets_leave n.0 n.1)) (λ a le. le)) (omega arith)))
attribute_leaves (suc (suc b) ∷ rest) = omega arith

body_leaves : (octets : List ℕ) → LeavesAtMost rest_of (length octets) (body_at octets)
unfolding body_at
body_leaves octets = next rest_of rest_of (length octets) (number_at w32 octets) (λ n. octets_at n.0 n.1) (number_leaves w32 octets) (λ n le. weaker rest_of (length n.1) (length octets) (octets_at n.0 n.1) le (octets_leave n.0 n.1))

file_octets_leave : (kind : Kind) (octets : List ℕ) → LeavesAtMost rest_of (length octets) (file_octets_at kind octets)
unfolding file_octets_at
file_octets_leave Dir octets = omega arith
file_octets_leave File octets =
    next rest_of rest_of (length octets) (attribute_at octets) (λ a. body_at a.1 >>= λ b. Ok (record { attribute = a.0; body = b.0 }, b.1)) (attribute_leaves octets)
    (λ a le. next rest_of rest_of (length octets) (body_at a.1) (λ b. Ok (record { attribute = a.0; body = b.0 }, b.1)) (weaker rest_of (length a.1) (length octets) (body_at a.1) le (body_leaves a.1)) (λ b le. le))

entry_in_leaves : (level : ℕ) (parent : Option OpenDir) (octets : List ℕ) → LeavesAtMost rest_of (length octets) (entry_in level parent octets)
entry_in_leaves level None octets = omega arith
entry_in_leaves level (Some parent) octets =
    let made : (kind : Kind) (name : List ℕ) (c : FileOctets × List ℕ) → Result (Entry × List ℕ) FieldFault = λ kind name c. Ok (record { node = record { parent = parent.node; kind = kind; name = name; attribute = c.0.attribute; body = c.0.body }; level = level }, c.1) in
    next rest_of rest_of (length octets) (kind_at octets) (λ kind. name_at parent.last kind.1 >>= λ name. file_octets_at kind.0 name.1 >>= λ c. made kind.0 name.0 c) (kind_leaves octets)
    (λ kind le. next rest_of rest_of (length octets) (name_at parent.last kind.1) (λ name. file_octets_at kind.0 name.1 >>= λ c. made kind.0 name.0 c) (weaker rest_of (length kind.1) (length octets) (name_at parent.last kind.1) le (name_leaves parent.last kind.1))
    (λ name le. next rest_of rest_of (length octets) (file_octets_at kind.0 name.1) (λ c. made kind.0 name.0 c) (weaker rest_of (length name.1) (length octets) (file_octets_at kind.0 name.1) le (file_octets_leave kind.0 name.1)) (λ c le. le)))

entry_leaves : (path : List OpenDir) (octets : List ℕ) → LeavesAtMost rest_of (length octets) (entry_at path octets)
unfolding entry_at
entry_leaves path octets =
    next rest_of rest_of (length octets) (level_at (length path) octets) (λ l. entry_in l.0 (slice_get path l.0) l.1) (level_leaves (length path) octets)
    (λ l le. weaker rest_of (length l.1) (length octets) (entry_in l.0 (slice_get path l.0) l.1) le (entry_in_leaves l.0 (slice_get path l.0) l.1))

entries_leave : (count : ℕ) (path : List OpenDir) (number : ℕ) (octets : List ℕ) → LeavesAtMost rest_of (length octets) (entries_at count path number octets)
unfolding entries_at
entries_leave zero path number octets = omega arith
entries_leave (suc count) path number octets =
    let others : Entry × List ℕ → Field (List LowerNode) = λ f. entries_at count (path_behind path f.0.level number f.0.node) (number + 1) f.1 in
    next rest_of rest_of (length octets) (entry_at path octets) (λ f. others f >>= λ o. Ok (f.0.node ∷ o.0, o.1)) (entry_leaves path octets)
    (λ f le. next rest_of rest_of (length octets) (others f) (λ o. Ok (f.0.node ∷ o.0, o.1)) (weaker rest_of (length f.1) (length octets) (others f) le (entries_leave count (path_behind path f.0.level number f.0.node) (number + 1) f.1)) (λ o le. le))

counted_leaves : (octets : List ℕ) → LeavesAtMost nothing_of (length octets) (counted_nodes_at octets)
unfolding counted_nodes_at
counted_leaves octets =
    let all : ℕ × List ℕ → Field (List LowerNode) = λ n. entries_at n.0 root_path 1 n.1 in
    next rest_of nothing_of (length octets) (number_at w32 octets) (λ n. cond (leb n.0 4095) (all n >>= whole_tree) (wrong kinds.TooMany octets)) (number_leaves w32 octets)
    (λ n le. either nothing_of (length octets) (leb n.0 4095) (all n >>= whole_tree) (wrong kinds.TooMany octets)
    (next rest_of nothing_of (length octets) (all n) whole_tree (weaker rest_of (length n.1) (length octets) (all n) le (entries_leave n.0 root_path 1 n.1))
    (λ x le. either nothing_of (length octets) (eqb (length x.1) 0) (Ok (root ∷ x.0)) (wrong kinds.Extra x.1) (omega arith) le)) (omega arith))

nodes_leave : (octets : List ℕ) → LeavesAtMost nothing_of (length octets) (nodes_at octets)
unfolding nodes_at
nodes_leave octets =
    either nothing_of (length octets) (starts_with nat_eq octets magic) (counted_nodes_at (drop 8 octets)) (wrong kinds.Magic octets)
    (weaker nothing_of (length (drop 8 octets)) (length octets) (counted_nodes_at (drop 8 octets)) (omega (arith, length-drop 8 octets)) (counted_leaves (drop 8 octets))) (omega arith)

-- the wrong field lies within the octets
pub left-within : (octets : List ℕ) (f : FieldFault) → nodes_at octets ≡ Err f → f.left ≤ length octets
left-within octets f e = subst (LeavesAtMost nothing_of (length octets)) e (nodes_leave octets)
