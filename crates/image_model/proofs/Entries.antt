-- Entries: what is read is spelled so, and what is spelled so is read.
use Rattle.std.proofs.Common.{◌≡◌, ℕ, zero, suc, ◌+◌, ◌<◌, ◌≤◌, true, List, [], ◌∷◌, ◌++◌, length, take, Option, Some, None, Ok, refl, sym, ap, subst, ◌∙◌, append_assoc, arith, eq-eqb}
use Rattle.std.specs.Prelude.{IfSome, IsTrue, slice_get}
use Rattle.std.specs.Int.{w16, to_be_bytes}
use Rattle.std.proofs.lemmas.Bool.{ne_eqb}
use Rattle.std.proofs.lemmas.List.{length-append, length-take}
use Rattle.lower_model.specs.declared.kind.Kind.{Kind}
use Rattle.lower_model.specs.declared.kind.Kind.TheVariants.{Dir, File}
use Rattle.lower_model.specs.declared.node.LowerNode.{LowerNode}
use Rattle.lower_model.specs.declared.node.OpenDir.{OpenDir}
use Rattle.octet_model.specs.Octets.{AreOctets}
use Rattle.lower_model.specs.Name.{is_name}
use Rattle.lower_model.specs.LowerTree.{comes_before, level_in, opened, path_behind, HoldsOctets, IsEntry, AreEntries}
use Rattle.image_model.specs.ImageText.{kind_code, file_octets, entry, entries}
use Rattle.image_model.specs.ImageReading.{level_at, kind_at, name_at, file_octets_at, Entry, entry_in, entry_at, entries_at}
use Rattle.answer_model.specs.Answer.{◌>>=◌}
use Rattle.answer_model.proofs.Binds.{bind_ok}
use Rattle.image_model.proofs.Fields.{moved, Takes, Takes-then, level_takes, level_again, kind_takes, kind_again, name_takes, name_again, file_octets_take, file_octets_again}

-- what stands behind the level of an entry
abbrev tail : LowerNode → List ℕ
tail n = kind_code n.kind ∷ (length n.name ∷ (n.name ++ file_octets n.kind n.attribute n.body))

-- an entry of this directory, at this level
record IsBelow (level : ℕ) (parent : OpenDir) (r : Entry) : Type 0 where
  same_level : r.level ≡ level
  same_parent : parent.node ≡ r.node.parent
  after : comes_before parent.last r.node.name ≡ true
  name : is_name r.node.name ≡ true
  octets : HoldsOctets r.node.kind r.node.attribute r.node.body

below_takes : (level : ℕ) (parent : OpenDir) (octets : List ℕ) (x : Entry × List ℕ) → AreOctets octets → entry_in level (Some parent) octets ≡ Ok x → Takes octets (tail x.0.node) x.1 × IsBelow level parent x.0
below_takes level parent octets x fits e =
    let a = bind_ok (kind_at octets) (λ kind. name_at parent.last kind.1 >>= λ name. file_octets_at kind.0 name.1 >>= λ c. Ok (record { node = record { parent = parent.node; kind = kind.0; name = name.0; attribute = c.0.attribute; body = c.0.body }; level = level }, c.1)) x e in
    let b = bind_ok (name_at parent.last a.0.1) (λ name. file_octets_at a.0.0 name.1 >>= λ c. Ok (record { node = record { parent = parent.node; kind = a.0.0; name = name.0; attribute = c.0.attribute; body = c.0.body }; level = level }, c.1)) x a.2 in
    let d = bind_ok (file_octets_at a.0.0 b.0.1) (λ c. Ok (record { node = record { parent = parent.node; kind = a.0.0; name = b.0.0; attribute = c.0.attribute; body = c.0.body }; level = level }, c.1)) x b.2 in
    let t = kind_takes octets a.0.0 a.0.1 fits a.1 in
    let u = name_takes parent.last a.0.1 b.0.0 b.0.1 t.rest_fits b.1 in
    let v = file_octets_take a.0.0 b.0.1 d.0.0 d.0.1 u.0.rest_fits d.1 in
    let uv = Takes-then a.0.1 (length b.0.0 ∷ b.0.0) b.0.1 (file_octets a.0.0 d.0.0.attribute d.0.0.body) d.0.1 u.0 v.0 in
    let tuv = Takes-then octets (kind_code a.0.0 ∷ []) a.0.1 (length b.0.0 ∷ (b.0.0 ++ file_octets a.0.0 d.0.0.attribute d.0.0.body)) d.0.1 t uv in
    let made : Entry × List ℕ = (record { node = record { parent = parent.node; kind = a.0.0; name = b.0.0; attribute = d.0.0.attribute; body = d.0.0.body }; level = level }, d.0.1) in
    moved (λ (y : Entry × List ℕ). Takes octets (tail y.0.node) y.1 × IsBelow level parent y.0) made x d.2
    (tuv, record { same_level = refl; same_parent = refl; after = u.2; name = u.1; octets = v.1 })

entry_from : (path : List OpenDir) (octets : List ℕ) (level : ℕ) (m : List ℕ) (o : Option OpenDir) (x : Entry × List ℕ) → slice_get path level ≡ o → level < length path
    → Takes octets (to_be_bytes w16 (level + 1)) m → entry_in level o m ≡ Ok x → Takes octets (entry x.0.level x.0.node) x.1 × IsEntry path x.0.level x.0.node
entry_from path octets level m None x at within t e = absurd cc
entry_from path octets level m (Some parent) x at within t e =
    let u = below_takes level parent m x t.rest_fits e in
    let both = Takes-then octets (to_be_bytes w16 (level + 1)) m (tail x.0.node) x.1 t u.0 in
    let found : IfSome (slice_get path level) (λ d. (d.node ≡ x.0.node.parent) × IsTrue (comes_before d.last x.0.node.name)) =
    subst (λ (o : Option OpenDir). IfSome o (λ d. (d.node ≡ x.0.node.parent) × IsTrue (comes_before d.last x.0.node.name))) (sym at) (u.1.same_parent, u.1.after) in
    let there : Takes octets (entry level x.0.node) x.1 × IsEntry path level x.0.node = (both, record { parent = found; within = within; name = u.1.name; octets = u.1.octets }) in
    subst (λ (k : ℕ). Takes octets (entry k x.0.node) x.1 × IsEntry path k x.0.node) (sym u.1.same_level) there

pub entry_takes : (path : List OpenDir) (octets : List ℕ) (x : Entry × List ℕ) → AreOctets octets → entry_at path octets ≡ Ok x → Takes octets (entry x.0.level x.0.node) x.1 × IsEntry path x.0.level x.0.node
unfolding entry_at
entry_takes path octets x fits e =
    let a = bind_ok (level_at (length path) octets) (λ l. entry_in l.0 (slice_get path l.0) l.1) x e in
    let t = level_takes (length path) octets a.0.0 a.0.1 fits a.1 in
    entry_from path octets a.0.0 a.0.1 (slice_get path a.0.0) x refl t.1 t.0 a.2

-- The directories that are open have rising numbers, from low to below high.
abbrev IsRising : ℕ → List OpenDir → ℕ → Type 0
IsRising low [] high = Unit {0}
IsRising low (d ∷ ds) high = (low ≤ d.node) × (d.node < high) × IsRising (d.node + 1) ds high

above : (low : ℕ) (path : List OpenDir) (high level : ℕ) (d : OpenDir) → IsRising low path high → slice_get path level ≡ Some d → low ≤ d.node
above low [] high level d r e = absurd cc
above low (x ∷ xs) high zero d r e = let same : x ≡ d = cc in subst (λ (y : OpenDir). low ≤ y.node) same r.0
above low (x ∷ xs) high (suc level) d r e = let h = above (x.node + 1) xs high level d r.2 e in omega (arith, r.0)

-- so a directory stands at one level
level_is : (low : ℕ) (path : List OpenDir) (high level : ℕ) (d : OpenDir) → IsRising low path high → slice_get path level ≡ Some d → level_in path d.node ≡ level
level_is low [] high level d r e = absurd cc
level_is low (x ∷ xs) high zero d r e =
    let same : x ≡ d = cc in
    rw (eq-eqb x.node d.node (ap (λ (y : OpenDir). y.node) same)) refl
level_is low (x ∷ xs) high (suc level) d r e =
    let h = above (x.node + 1) xs high level d r.2 e in
    let next = level_is (x.node + 1) xs high level d r.2 e in
    let differs : x.node ≡ d.node → ⊥ = λ q. omega arith in
    rw (ne_eqb x.node d.node differs) (omega (arith, next))

rising_behind : (low : ℕ) (path : List OpenDir) (high level : ℕ) (d : OpenDir) (last : List ℕ) (kind : Kind) → IsRising low path high → slice_get path level ≡ Some d
    → IsRising low (take level path ++ record { node = d.node; last = last } ∷ opened kind high) (high + 1)
rising_behind low [] high level d last kind r e = absurd cc
rising_behind low (x ∷ xs) high zero d last Dir r e =
    let same : x ≡ d = cc in
    let s : x.node ≡ d.node = ap (λ (y : OpenDir). y.node) same in
    (omega (arith, r.0), omega (arith, r.1), (omega (arith, r.1), omega arith, tt))
rising_behind low (x ∷ xs) high zero d last File r e =
    let same : x ≡ d = cc in
    let s : x.node ≡ d.node = ap (λ (y : OpenDir). y.node) same in
    (omega (arith, r.0), omega (arith, r.1), tt)
rising_behind low (x ∷ xs) high (suc level) d last kind r e = (r.0, omega (arith, r.1), rising_behind (x.node + 1) xs high level d last kind r.2 e)

none_past : (path : List OpenDir) (level : ℕ) → slice_get path level ≡ None → length path ≤ level
none_past [] level e = omega arith
none_past (x ∷ xs) zero e = absurd cc
none_past (x ∷ xs) (suc level) e = let h = none_past xs level e in omega arith

-- an entry's parent is open at its level
parent_of : (path : List OpenDir) (level : ℕ) (node : LowerNode) (o : Option OpenDir) → slice_get path level ≡ o → IsEntry path level node → (d : OpenDir) × (slice_get path level ≡ Some d) × (d.node ≡ node.parent) × (comes_before d.last node.name ≡ true)
parent_of path level node None at i = absurd (omega (arith, none_past path level at, i.within))
parent_of path level node (Some d) at i =
    let h : (d.node ≡ node.parent) × IsTrue (comes_before d.last node.name) = subst (λ (o : Option OpenDir). IfSome o (λ d. (d.node ≡ node.parent) × IsTrue (comes_before d.last node.name))) at i.parent in
    (d, at, h.0, h.1)

pub entry_level : (path : List OpenDir) (high level : ℕ) (node : LowerNode) → IsRising 0 path high → IsEntry path level node → level_in path node.parent ≡ level
entry_level path high level node r i =
    let p = parent_of path level node (slice_get path level) refl i in
    subst (λ (k : ℕ). level_in path k ≡ level) p.2 (level_is 0 path high level p.0 r p.1)

entry_rising : (path : List OpenDir) (high level : ℕ) (node : LowerNode) → IsRising 0 path high → IsEntry path level node → IsRising 0 (path_behind path level high node) (high + 1)
entry_rising path high level node r i =
    let p = parent_of path level node (slice_get path level) refl i in
    subst (λ (k : ℕ). IsRising 0 (take level path ++ record { node = k; last = node.name } ∷ opened node.kind high) (high + 1)) p.2 (rising_behind 0 path high level p.0 node.name node.kind r p.1)

-- one entry, and those behind it
entries_from : (path : List OpenDir) (number level : ℕ) (node : LowerNode) (nodes : List LowerNode) (octets m rest : List ℕ) → level_in path node.parent ≡ level → IsEntry path level node
    → Takes octets (entry level node) m → Takes m (entries (path_behind path level number node) (number + 1) nodes) rest × AreEntries (path_behind path level number node) (number + 1) nodes
    → Takes octets (entries path number (node ∷ nodes)) rest × AreEntries path number (node ∷ nodes)
entries_from path number level node nodes octets m rest is i t u =
    subst (λ (k : ℕ). Takes octets (entry k node ++ entries (path_behind path k number node) (number + 1) nodes) rest × (IsEntry path k node × AreEntries (path_behind path k number node) (number + 1) nodes)) (sym is)
    (Takes-then octets (entry level node) m (entries (path_behind path level number node) (number + 1) nodes) rest t u.0, (i, u.1))

pub entries_take : (count : ℕ) (path : List OpenDir) (number : ℕ) (octets : List ℕ) (x : List LowerNode × List ℕ) → IsRising 0 path number → AreOctets octets → entries_at count path number octets ≡ Ok x
    → (Takes octets (entries path number x.0) x.1 × AreEntries path number x.0) × (length x.0 ≡ count)
unfolding entries_at
entries_take zero path number octets x r fits e =
    moved (λ (y : List LowerNode × List ℕ). (Takes octets (entries path number y.0) y.1 × AreEntries path number y.0) × (length y.0 ≡ 0)) ([], octets) x e ((record { parts = refl; rest_fits = fits }, tt), refl)
entries_take (suc count) path number octets x r fits e =
    let a = bind_ok (entry_at path octets) (λ f. entries_at count (path_behind path f.0.level number f.0.node) (number + 1) f.1 >>= λ o. Ok (f.0.node ∷ o.0, o.1)) x e in
    let b = bind_ok (entries_at count (path_behind path a.0.0.level number a.0.0.node) (number + 1) a.0.1) (λ o. Ok (a.0.0.node ∷ o.0, o.1)) x a.2 in
    let t = entry_takes path octets a.0 fits a.1 in
    let u = entries_take count (path_behind path a.0.0.level number a.0.0.node) (number + 1) a.0.1 b.0 (entry_rising path number a.0.0.level a.0.0.node r t.1) t.0.rest_fits b.1 in
    let made : List LowerNode × List ℕ = (a.0.0.node ∷ b.0.0, b.0.1) in
    moved (λ (y : List LowerNode × List ℕ). (Takes octets (entries path number y.0) y.1 × AreEntries path number y.0) × (length y.0 ≡ suc count)) made x b.2
    (entries_from path number a.0.0.level a.0.0.node b.0.0 octets a.0.1 b.0.1 (entry_level path number a.0.0.level a.0.0.node r t.1) t.1 t.0 u.0, ap suc u.1)

-- ---- what is spelled is read

below_again : (level : ℕ) (d : OpenDir) (n : LowerNode) (rest : List ℕ) → d.node ≡ n.parent → comes_before d.last n.name ≡ true → is_name n.name ≡ true → HoldsOctets n.kind n.attribute n.body
    → entry_in level (Some d) (tail n ++ rest) ≡ Ok (record { node = n; level = level }, rest)
below_again level d n rest same after named holds =
    let regroup : (n.name ++ file_octets n.kind n.attribute n.body) ++ rest ≡ n.name ++ (file_octets n.kind n.attribute n.body ++ rest) = append_assoc n.name (file_octets n.kind n.attribute n.body) rest in
    rw (kind_again n.kind (length n.name ∷ ((n.name ++ file_octets n.kind n.attribute n.body) ++ rest)), regroup, name_again d.last n.name (file_octets n.kind n.attribute n.body ++ rest) named after, file_octets_again n.kind n.attribute n.body rest holds, same) refl

entry_again : (path : List OpenDir) (level : ℕ) (n : LowerNode) (rest : List ℕ) → IsEntry path level n → length path ≤ 65535 → entry_at path (entry level n ++ rest) ≡ Ok (record { node = n; level = level }, rest)
unfolding entry_at
entry_again path level n rest i most =
    let p = parent_of path level n (slice_get path level) refl i in
    let regroup : entry level n ++ rest ≡ to_be_bytes w16 (level + 1) ++ (tail n ++ rest) = append_assoc (to_be_bytes w16 (level + 1)) (tail n) rest in
    ap (entry_at path) regroup ∙ rw (level_again (length path) level (tail n ++ rest) i.within most, p.1) (below_again level p.0 n rest p.2 p.3 i.name i.octets)

deeper : (path : List OpenDir) (number level : ℕ) (n : LowerNode) → level < length path → length path ≤ number → length (path_behind path level number n) ≤ number + 1
deeper path number level n within deep = by n.kind
  where
    by : (kind : Kind) → length (take level path ++ record { node = n.parent; last = n.name } ∷ opened kind number) ≤ number + 1
    by Dir = omega (arith, length-append (take level path) (record { node = n.parent; last = n.name } ∷ opened Dir number), length-take level path)
    by File = omega (arith, length-append (take level path) (record { node = n.parent; last = n.name } ∷ opened File number), length-take level path)

pub entries_again : (nodes : List LowerNode) (path : List OpenDir) (number : ℕ) (rest : List ℕ) → AreEntries path number nodes → number + length nodes ≤ 65535 → length path ≤ number
    → entries_at (length nodes) path number (entries path number nodes ++ rest) ≡ Ok (nodes, rest)
unfolding entries_at
entries_again [] path number rest are most deep = refl
entries_again (n ∷ nodes) path number rest are most deep =
    let level = level_in path n.parent in
    let behind = entries (path_behind path (level_in path n.parent) number n) (number + 1) nodes in
    let regroup : entries path number (n ∷ nodes) ++ rest ≡ entry level n ++ (behind ++ rest) = append_assoc (entry level n) behind rest in
    let next = entries_again nodes (path_behind path level number n) (number + 1) rest are.1 (omega arith) (deeper path number level n are.0.within deep) in
    ap (entries_at (suc (length nodes)) path number) regroup ∙ rw (entry_again path level n (behind ++ rest) are.0 (omega arith), next) refl
