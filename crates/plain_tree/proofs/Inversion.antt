-- A change that a call comes to is one that the tree may make.
use Rattle.std.proofs.Common.{◌≡◌, ℕ, ◌<◌, ◌≤◌, inl, inr, Bool, true, false, List, length, Option, Some, None, Result, Ok, Err, refl, sym, ap, subst, ◌∙◌}
use Rattle.std.specs.Prelude.{slice_get, nat_lt, is_none, not, ◌&&◌, ◌||◌, is_some}
use Rattle.std.proofs.lemmas.Bool.{cases_Bool, cases_lt, le-ltb, not-false, ltb-false, false≢true, true≢false, eq-eqb}
use Rattle.lower_model.specs.declared.kind.Kind.{Kind}
use Rattle.tree_model.specs.declared.call.TreeRefusal.{TreeRefusal}
use Rattle.tree_model.specs.declared.call.TreeReply.{TreeReply}
use Rattle.tree_model.specs.declared.call.TreeReply.TheVariants as replies
use Rattle.tree_model.specs.declared.call.TreeCall.{TreeCall}
use Rattle.tree_model.specs.declared.call.TreeCall.TheVariants as calls
use Rattle.tree_model.specs.declared.change.Change.{Change}
use Rattle.tree_model.specs.declared.change.Change.TheVariants.{Make}
use Rattle.tree_model.specs.declared.change.Prepared.{Prepared}
use Rattle.tree_model.specs.declared.change.Prepared.TheVariants as prepared
use Rattle.tree_model.specs.declared.place.Directory.{Directory}
use Rattle.tree_model.specs.declared.place.Place.{Place}
use Rattle.tree_model.specs.declared.place.Place.TheVariants.{Dir, File, Nothing}
use Rattle.tree_model.specs.Names.{node_of}
use Rattle.tree_model.specs.Walk.{◌>>=◌, unless, dir_of, target_in, entry_of, walk, comes_by, front, last}
use Rattle.tree_model.specs.IsTree.{IsTree, IsDirectory, IsNode, node_in}
use Rattle.tree_model.specs.PlainTree.{PlainTree, Tested, most_nodes, is_dir, is_file, is_bare, has_nothing, place_there, is_same, is_blocked, is_blocked_at, is_taken, file_of, empty_at, allows, room_for, make, goes, rmdir, unlink, fits_file, fits_name, fits_place, lands, leaves, goes_to, is_long, rename, names_in, resolve, stat, tested, or_refused, comes_to}
use Rattle.plain_tree.specs.Prepared.{PreparesFor, Replaces, CanChange, IfChange}
use Rattle.tree_model.proofs.Walks.{then_ok, entry_node, parted, walk_last}

unless_ok : (b : Bool) (e : TreeRefusal) (u : Unit {0}) → unless b e ≡ Ok u → b ≡ false
unless_ok true e u h = absurd cc
unless_ok false e u h = refl

dir_is : (p : Option Place) (d : Directory) → dir_of p ≡ Ok d → p ≡ Some (Dir d)
dir_is (Some (Dir d)) e h = ap (λ (x : Directory). Some (Dir x)) cc
dir_is (Some File) e h = absurd cc
dir_is (Some Nothing) e h = absurd cc
dir_is None e h = absurd cc

file_bare : (p : Option Place) (u : Unit {0}) → file_of p ≡ Ok u → is_bare p ≡ true
file_bare (Some (Dir d)) u h = absurd cc
file_bare (Some File) u h = refl
file_bare (Some Nothing) u h = refl
file_bare None u h = refl

empty_bare : (places : List Place) (n : ℕ) (u : Unit {0}) → empty_at places n ≡ Ok u → is_bare (slice_get places n) ≡ true
empty_bare places n u h =
    let d = then_ok (dir_of (slice_get places n)) _ u h in
    ap is_bare (dir_is (slice_get places n) d.0 d.1) ∙ not-false (has_nothing d.0) (unless_ok (not (has_nothing d.0)) _ u d.2)

or_parts : (x y : Bool) → (x || y) ≡ false → (x ≡ false) × (y ≡ false)
or_parts true y h = absurd (true≢false h)
or_parts false y h = (refl, h)

none_is : {A : Type 0} (o : Option A) → is_some o ≡ false → o ≡ None
none_is None h = refl
none_is (Some a) h = absurd (true≢false h)

tested_is : (r : Tested) (c : Change) → or_refused r ≡ prepared.Change c → r ≡ Ok (prepared.Change c)
tested_is (Ok p) c h = ap (λ (x : Prepared). Ok x) h
tested_is (Err e) c h = absurd cc

change_is : (c d : Change) → (let r : Tested = Ok (prepared.Change c) in r) ≡ Ok (prepared.Change d) → c ≡ d
change_is c d h = cc

no_answer : (reply : TreeReply) (c : Change) → (let r : Tested = Ok (prepared.Answer reply) in r) ≡ Ok (prepared.Change c) → ⊥
no_answer reply c h = absurd cc

-- ---- each call

can_make : (t : PlainTree) (kind : Kind) (parents : List (List ℕ)) (name : Option (List ℕ)) (c : Change) → make t kind parents name ≡ Ok (prepared.Change c) → CanChange t c
can_make t kind parents None c h = absurd cc
can_make t kind parents (Some name) c h =
    let at = then_ok (room_for t.limit t.places parents name) _ (prepared.Change c) h in
    let is : Make (record { dir = at.0; name = name; kind = kind }) ≡ c = change_is _ c at.2 in
    let long = then_ok (unless (nat_lt t.limit (length name)) _) _ at.0 at.1 in
    let dir = then_ok (walk t.places 0 parents) _ at.0 long.2 in
    let d = then_ok (dir_of (slice_get t.places dir.0)) _ at.0 dir.2 in
    let allowed = then_ok (allows t.places d.0 name) _ at.0 d.2 in
    let here : dir.0 ≡ at.0 = cc in
    let free = then_ok (unless (is_taken d.0 name) _) _ allowed.0 allowed.1 in
    let parts = or_parts (is_some (node_of name d.0.shown)) (is_blocked d.0 name) (unless_ok (is_taken d.0 name) _ free.0 free.1) in
    let there : slice_get t.places at.0 ≡ Some (Dir d.0) = ap (slice_get t.places) (sym here) ∙ dir_is (slice_get t.places dir.0) d.0 d.1 in
    let few : nat_lt (length t.places) most_nodes ≡ true = not-false _ (unless_ok (not (nat_lt (length t.places) most_nodes)) _ allowed.0 free.2) in
    let short : nat_lt t.limit (length name) ≡ false = unless_ok (nat_lt t.limit (length name)) _ long.0 long.1 in
    subst (CanChange t) is (record {
      directory = rw there tt;
      absent = rw there (none_is (node_of name d.0.shown) parts.0);
      unblocked = rw there parts.1;
      few = lt_from (length t.places) most_nodes few;
      fits = ltb-false t.limit (length name) short;
    })
  where
    lt_from : (a b : ℕ) → nat_lt a b ≡ true → a < b
    lt_from a b h = elim (cases_lt a b) [
      | inl lt ↦ lt
      | inr ge ↦ absurd (true≢false (sym h ∙ le-ltb a b ge))
    ]

can_goes : (t : PlainTree) (dir : ℕ) (name : List ℕ) (node : ℕ) (c : Change) → node_in (slice_get t.places dir) name ≡ Some node → is_bare (slice_get t.places node) ≡ true → goes dir name node ≡ Ok (prepared.Change c) → CanChange t c
can_goes t dir name node c there bare h = subst (CanChange t) (change_is _ c h) (record { there = there; bare = bare })

can_rmdir : (t : PlainTree) (parents : List (List ℕ)) (name : Option (List ℕ)) (c : Change) → rmdir t.places parents name ≡ Ok (prepared.Change c) → CanChange t c
can_rmdir t parents None c h = absurd cc
can_rmdir t parents (Some name) c h =
    let dir = then_ok (walk t.places 0 parents) _ (prepared.Change c) h in
    let node = then_ok (entry_of (slice_get t.places dir.0) name) _ (prepared.Change c) dir.2 in
    let u = then_ok (empty_at t.places node.0) _ (prepared.Change c) node.2 in
    can_goes t dir.0 name node.0 c (entry_node _ name node.0 node.1) (empty_bare t.places node.0 u.0 u.1) u.2

can_unlink : (t : PlainTree) (parents : List (List ℕ)) (name : Option (List ℕ)) (c : Change) → unlink t.places parents name ≡ Ok (prepared.Change c) → CanChange t c
can_unlink t parents None c h = absurd cc
can_unlink t parents (Some name) c h =
    let dir = then_ok (walk t.places 0 parents) _ (prepared.Change c) h in
    let node = then_ok (entry_of (slice_get t.places dir.0) name) _ (prepared.Change c) dir.2 in
    let u = then_ok (file_of (slice_get t.places node.0)) _ (prepared.Change c) node.2 in
    can_goes t dir.0 name node.0 c (entry_node _ name node.0 node.1) (file_bare (slice_get t.places node.0) u.0 u.1) u.2

-- a rename, whose tests are passed
alike : (p q : Option Place) → IsNode p → IsNode q → (is_dir p && is_file q) ≡ false → (is_file p && is_dir q) ≡ false → is_dir q ≡ is_dir p
alike (Some (Dir d)) (Some (Dir e)) a b f g = refl
alike (Some (Dir d)) (Some File) a b f g = absurd (true≢false f)
alike (Some File) (Some (Dir e)) a b f g = absurd (true≢false g)
alike (Some File) (Some File) a b f g = refl
alike (Some (Dir d)) (Some Nothing) a b f g = absurd b
alike (Some (Dir d)) None a b f g = absurd b
alike (Some File) (Some Nothing) a b f g = absurd b
alike (Some File) None a b f g = absurd b
alike (Some Nothing) q a b f g = absurd a
alike None q a b f g = absurd a

replaces : (t : PlainTree) (node to : ℕ) (name : List ℕ) (target : Option ℕ) → IsTree t.places → IsNode (slice_get t.places node) → node_in (slice_get t.places to) name ≡ target
    → (is_dir (slice_get t.places node) && is_file (place_there t.places target)) ≡ false → ((is_none target && is_blocked_at (slice_get t.places to) name) ≡ false)
    → (is_file (slice_get t.places node) && is_dir (place_there t.places target)) ≡ false → is_same target node ≡ false → is_bare (place_there t.places target) ≡ true → Replaces t node to name target
replaces t node to name None tree is there f b g s bare = b
replaces t node to name (Some target) tree is there f b g s bare = record {
  other = λ e. true≢false (sym (eq-eqb target node e) ∙ s);
  alike = alike (slice_get t.places node) (slice_get t.places target) is (tree.there to name target there) f g;
  bare = bare;
}

and_then : (a b : Bool) → (a && b) ≡ false → a ≡ true → b ≡ false
and_then true b h e = h
and_then false b h e = absurd (false≢true e)

can_land : (t : PlainTree) (old : List (List ℕ)) (was : List ℕ) (node : ℕ) (parents : List (List ℕ)) (name : List ℕ) (to : ℕ) (target : Option ℕ) (c : Change) → IsTree t.places
    → walk t.places 0 old ≡ Ok node → last old ≡ Some was → walk t.places 0 parents ≡ Ok to → IsDirectory (slice_get t.places to) → node_in (slice_get t.places to) name ≡ target → length name ≤ t.limit
    → (is_dir (slice_get t.places node) && is_file (place_there t.places target)) ≡ false → ((is_none target && is_blocked_at (slice_get t.places to) name) ≡ false) → (is_file (slice_get t.places node) && is_dir (place_there t.places target)) ≡ false
    → lands t.places (front old) was node parents name to target ≡ Ok (prepared.Change c) → CanChange t c
can_land t old was node parents name to target c tree walks is_last reaches dir there fits f b g h =
    elim (cases_Bool (is_same target node)) [
      | inl s ↦ absurd (no_answer replies.Done c (rw s at h))
      | inr s ↦ (let placed = then_ok (fits_place t.places node (comes_by t.places node 0 parents) target) _ (prepared.Change c) (rw s at h) in
          let from = then_ok (walk t.places 0 (front old)) _ (prepared.Change c) placed.2 in
          let outside = then_ok (unless (is_dir (slice_get t.places node) && comes_by t.places node 0 parents) _) _ placed.0 placed.1 in
          let bare : is_bare (place_there t.places target) ≡ true = not-false _ (unless_ok (not (is_bare (place_there t.places target))) _ placed.0 outside.2) in
          let entry : entry_of (slice_get t.places from.0) was ≡ Ok node =
          ap (λ (r : Result ℕ TreeRefusal). r >>= λ n. entry_of (slice_get t.places n) was) (sym from.1) ∙ sym (walk_last t.places 0 (front old) was) ∙ ap (walk t.places 0) (sym (parted old was is_last)) ∙ walks in
          let shown : node_in (slice_get t.places from.0) was ≡ Some node = entry_node (slice_get t.places from.0) was node entry in
          subst (CanChange t) (change_is _ c from.2) (record {
            there = shown;
            directory = dir;
            target = there;
            replaces = replaces t node to name target tree (tree.there from.0 was node shown) there f b g s bare;
            path = parents;
            reached = reaches;
            outside = and_then _ _ (unless_ok _ _ outside.0 outside.1);
            fits = fits;
          }))
    ]

can_leave : (t : PlainTree) (old : List (List ℕ)) (was : Option (List ℕ)) (node : ℕ) (parents : List (List ℕ)) (name : List ℕ) (to : ℕ) (target : Option ℕ) (c : Change) → IsTree t.places
    → walk t.places 0 old ≡ Ok node → last old ≡ was → walk t.places 0 parents ≡ Ok to → IsDirectory (slice_get t.places to) → node_in (slice_get t.places to) name ≡ target → length name ≤ t.limit
    → (is_dir (slice_get t.places node) && is_file (place_there t.places target)) ≡ false
    → leaves t.places (front old) was node parents name to target ≡ Ok (prepared.Change c) → CanChange t c
can_leave t old None node parents name to target c tree walks is_last reaches dir there fits f h = absurd cc
can_leave t old (Some was) node parents name to target c tree walks is_last reaches dir there fits f h =
    let named = then_ok (fits_name t.places to name node target) _ (prepared.Change c) h in
    let free = then_ok (unless (is_none target && is_blocked_at (slice_get t.places to) name) _) _ named.0 named.1 in
    can_land t old was node parents name to target c tree walks is_last reaches dir there fits f (unless_ok _ _ free.0 free.1) (unless_ok _ _ named.0 free.2) named.2

can_go : (t : PlainTree) (old : List (List ℕ)) (node : ℕ) (parents : List (List ℕ)) (name : Option (List ℕ)) (c : Change) → IsTree t.places → walk t.places 0 old ≡ Ok node → is_long t.limit name ≡ false
    → goes_to t.places (front old) (last old) node parents name ≡ Ok (prepared.Change c) → CanChange t c
can_go t old node parents None c tree walks short h = absurd cc
can_go t old node parents (Some name) c tree walks short h =
    let to = then_ok (walk t.places 0 parents) _ (prepared.Change c) h in
    let target = then_ok (target_in (slice_get t.places to.0) name) _ (prepared.Change c) to.2 in
    let d = then_ok (dir_of (slice_get t.places to.0)) _ target.0 target.1 in
    let is : slice_get t.places to.0 ≡ Some (Dir d.0) = dir_is (slice_get t.places to.0) d.0 d.1 in
    let there : node_of name d.0.shown ≡ target.0 = cc in
    let u = then_ok (fits_file t.places node target.0) _ (prepared.Change c) target.2 in
    can_leave t old (last old) node parents name to.0 target.0 c tree walks refl to.1 (subst IsDirectory (sym is) tt) (ap (λ (p : Option Place). node_in p name) is ∙ there) (ltb-false t.limit (length name) short) (unless_ok _ _ u.0 u.1) u.2

can_rename : (t : PlainTree) (old new : List (List ℕ)) (c : Change) → IsTree t.places → rename t old new ≡ Ok (prepared.Change c) → CanChange t c
can_rename t old new c tree h =
    let long = then_ok (unless (is_long t.limit (last new)) _) _ (prepared.Change c) h in
    let node = then_ok (walk t.places 0 old) _ (prepared.Change c) long.2 in
    can_go t old node.0 (front new) (last new) c tree node.1 (unless_ok _ _ long.0 long.1) node.2

no_list : (places : List Place) (parts : List (List ℕ)) (c : Change) → names_in places parts ≡ Ok (prepared.Change c) → ⊥
no_list places parts c h =
    let at = then_ok (walk places 0 parts) _ (prepared.Change c) h in
    let d = then_ok (dir_of (slice_get places at.0)) _ (prepared.Change c) at.2 in
    no_answer _ c d.2

no_resolve : (places : List Place) (parts : List (List ℕ)) (c : Change) → resolve places parts ≡ Ok (prepared.Change c) → ⊥
no_resolve places parts c h =
    let at = then_ok (walk places 0 parts) _ (prepared.Change c) h in
    let u = then_ok (file_of (slice_get places at.0)) _ (prepared.Change c) at.2 in
    no_answer _ c u.2

no_stat : (places : List Place) (parts : List (List ℕ)) (c : Change) → stat places parts ≡ Ok (prepared.Change c) → ⊥
no_stat places parts c h =
    let at = then_ok (walk places 0 parts) _ (prepared.Change c) h in
    no_answer _ c at.2

can : (t : PlainTree) (call : TreeCall) (c : Change) → IsTree t.places → tested t call ≡ Ok (prepared.Change c) → CanChange t c
can t (calls.Resolve p) c tree h = absurd (no_resolve t.places p c h)
can t (calls.Create p) c tree h = can_make t _ (front p) (last p) c h
can t (calls.Mkdir p) c tree h = can_make t _ (front p) (last p) c h
can t (calls.Rmdir p) c tree h = can_rmdir t (front p) (last p) c h
can t (calls.Unlink p) c tree h = can_unlink t (front p) (last p) c h
can t (calls.Rename paths) c tree h = can_rename t paths.old paths.new c tree h
can t (calls.List p) c tree h = absurd (no_list t.places p c h)
can t (calls.Stat p) c tree h = absurd (no_stat t.places p c h)

pub can_change : (t : PlainTree) (call : TreeCall) (p : Prepared) → IsTree t.places → PreparesFor p (comes_to t call) → IfChange p (λ c. CanChange t c)
can_change t call (prepared.Answer reply) tree h = tt
can_change t call (prepared.Change c) tree h = can t call c tree (tested_is (tested t call) c (sym h))
