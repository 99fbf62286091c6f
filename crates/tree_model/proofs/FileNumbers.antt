-- Which numbers a step tells as those of files, and that no number begins to stand for a file, but at the end.
use Rattle.std.proofs.Common.{◌≡◌, ℕ, zero, suc, ◌+◌, ◌<◌, ◌≤◌, ◌⊎◌, inl, inr, Bool, true, false, List, [], ◌∷◌, ◌++◌, length, Option, Some, None, Result, Ok, Err, refl, sym, subst, ◌∙◌, arith, length-append, if◌then◌else◌}
use Rattle.std.specs.Prelude.{slice_get, slice_set}
use Rattle.std.proofs.lemmas.List.{length-set}
use Rattle.lower_model.specs.declared.kind.Kind.{Kind}
use Rattle.lower_model.specs.declared.kind.Kind.TheVariants as kinds
use Rattle.tree_model.specs.declared.call.TreeCall.{TreeCall}
use Rattle.tree_model.specs.declared.call.TreeCall.TheVariants as calls
use Rattle.tree_model.specs.declared.call.TreeReply.{TreeReply}
use Rattle.tree_model.specs.declared.call.TreeReply.TheVariants as replies
use Rattle.tree_model.specs.declared.call.TreeRefusal.{TreeRefusal}
use Rattle.tree_model.specs.declared.change.Change.{Change}
use Rattle.tree_model.specs.declared.change.Change.TheVariants.{Make, Remove, Move}
use Rattle.tree_model.specs.declared.change.Prepared.{Prepared}
use Rattle.tree_model.specs.declared.change.Prepared.TheVariants as prepared
use Rattle.tree_model.specs.declared.place.Place.{Place}
use Rattle.tree_model.specs.declared.place.Place.TheVariants.{Dir, File, Nothing}
use Rattle.tree_model.specs.Walk.{◌>>=◌, unless, dir_of, target_in, entry_of, walk, comes_by, front, last}
use Rattle.tree_model.specs.PlainTree.{PlainTree, Tested, place_with, place_without, placed, taken_out, added, removed, cleared, moved, changed_places, begun, file_of, room_for, make, empty_at, rmdir, unlink, fits_file, fits_name, fits_place, is_same, lands, leaves, goes_to, is_long, rename, names_in, resolve, stat, tested, or_refused, comes_to, made_reply, stepped, step}
use Rattle.tree_model.proofs.NodeEntries.{get_append_left}

-- ---- no number begins to stand for a file

-- Places grow at their end alone, and of the numbers that were there none stands for a file that didn't.
pub record GrowsFrom (old new : List Place) : Type 0 where
  pub longer : length old ≤ length new
  pub files : (k : ℕ) → k < length old → slice_get new k ≡ Some File → slice_get old k ≡ Some File

pub grows_not : (places : List Place) → GrowsFrom places places
grows_not places = record { longer = omega arith; files = λ k lt h. h }

pub grows_on : (a b c : List Place) → GrowsFrom a b → GrowsFrom b c → GrowsFrom a c
grows_on a b c first rest =
    let one = first.longer in
    let two = rest.longer in
    record { longer = omega arith; files = λ k lt h. first.files k lt (rest.files k (omega arith) h) }

-- one place is another, which is a file only where one stood
file_set : (places : List Place) (at k : ℕ) (place : Place) → (place ≡ File → slice_get places at ≡ Some File) → slice_get (slice_set places at place) k ≡ Some File → slice_get places k ≡ Some File
file_set [] at k place was h = h
file_set (p ∷ places) zero zero place was h = was cc
file_set (p ∷ places) zero (suc k) place was h = h
file_set (p ∷ places) (suc at) zero place was h = h
file_set (p ∷ places) (suc at) (suc k) place was h = file_set places at k place was h

grows_set : (places : List Place) (at : ℕ) (place : Place) → (place ≡ File → slice_get places at ≡ Some File) → GrowsFrom places (slice_set places at place)
grows_set places at place was = record { longer = (let same = length-set places at place in omega arith); files = λ k lt h. file_set places at k place was h }

-- an entry more, or less, makes no file
with_file : (name : List ℕ) (node : ℕ) (p : Option Place) → place_with name node p ≡ File → p ≡ Some File
with_file name node (Some (Dir d)) h = absurd cc
with_file name node (Some File) h = refl
with_file name node (Some Nothing) h = absurd cc
with_file name node None h = absurd cc

without_file : (name : List ℕ) (p : Option Place) → place_without name p ≡ File → p ≡ Some File
without_file name (Some (Dir d)) h = absurd cc
without_file name (Some File) h = refl
without_file name (Some Nothing) h = absurd cc
without_file name None h = absurd cc

no_file : (x : Option Place) → Nothing ≡ File → x ≡ Some File
no_file x h = absurd cc

grows_placed : (places : List Place) (at : ℕ) (name : List ℕ) (node : ℕ) → GrowsFrom places (placed places at name node)
grows_placed places at name node = grows_set places at (place_with name node (slice_get places at)) (with_file name node (slice_get places at))

grows_out : (places : List Place) (at : ℕ) (name : List ℕ) → GrowsFrom places (taken_out places at name)
grows_out places at name = grows_set places at (place_without name (slice_get places at)) (without_file name (slice_get places at))

grows_removed : (places : List Place) (at : ℕ) (name : List ℕ) (node : ℕ) → GrowsFrom places (removed places at name node)
grows_removed places at name node =
    let out = taken_out places at name in
    grows_on places out (removed places at name node) (grows_out places at name) (grows_set out node Nothing (no_file (slice_get out node)))

grows_cleared : (places : List Place) (to : ℕ) (name : List ℕ) (target : Option ℕ) → GrowsFrom places (cleared places to name target)
grows_cleared places to name (Some target) = grows_removed places to name target
grows_cleared places to name None = grows_not places

grows_push : (places : List Place) (place : Place) → GrowsFrom places (places ++ place ∷ [])
grows_push places place = record {
  longer = (let more = length-append places (place ∷ []) in omega arith);
  files = λ k lt h. sym (get_append_left places (place ∷ []) k lt) ∙ h;
}

grows_changed : (places : List Place) (c : Change) → GrowsFrom places (changed_places places c)
grows_changed places (Make m) =
    let mid = placed places m.dir m.name (length places) in
    grows_on places mid (added places m.dir m.name (begun m.kind)) (grows_placed places m.dir m.name (length places)) (grows_push mid (begun m.kind))
grows_changed places (Remove r) = grows_removed places r.dir r.name r.node
grows_changed places (Move m) =
    let first = cleared places m.to m.name m.target in
    let second = taken_out first m.from m.was in
    grows_on places first (moved places m) (grows_cleared places m.to m.name m.target)
    (grows_on first second (moved places m) (grows_out first m.from m.was) (grows_placed second m.to m.name m.node))

grows_by : (t : PlainTree) (p : Prepared) → GrowsFrom t.places (stepped t p).tree.places
grows_by t (prepared.Answer reply) = grows_not t.places
grows_by t (prepared.Change c) = grows_changed t.places c

-- a step leaves older numbers what they are, or makes them stand for less
pub grows_step : (t : PlainTree) (call : TreeCall) → GrowsFrom t.places (step t call).tree.places
grows_step t call = grows_by t (comes_to t call)

-- ---- the number of a file is told

-- an answer tells only the number of a file that is there
abbrev TellsFile : List Place → TreeReply → Type 0
TellsFile places (replies.Node n) = slice_get places n ≡ Some File
TellsFile places reply = Unit {0}

abbrev TellsIf : List Place → Tested → Type 0
TellsIf places (Ok (prepared.Answer reply)) = TellsFile places reply
TellsIf places (Ok (prepared.Change c)) = Unit {0}
TellsIf places (Err refusal) = Unit {0}

-- a test that is passed, and what comes behind it
behind : {A : Type 0} → (places : List Place) (r : Result A TreeRefusal) (f : A → Tested) → ((a : A) → r ≡ Ok a → TellsIf places (f a)) → TellsIf places (r >>= f)
behind places (Ok a) f h = h a refl
behind places (Err e) f h = tt

either : (places : List Place) (b : Bool) (x y : Tested) → TellsIf places x → TellsIf places y → TellsIf places (if b then x else y)
either places true x y p q = p
either places false x y p q = q

file_there : (place : Option Place) (u : Unit {0}) → file_of place ≡ Ok u → place ≡ Some File
file_there (Some (Dir d)) u h = absurd cc
file_there (Some File) u h = refl
file_there (Some Nothing) u h = absurd cc
file_there None u h = absurd cc

tells_make : (t : PlainTree) (kind : Kind) (parents : List (List ℕ)) (name : Option (List ℕ)) → TellsIf t.places (make t kind parents name)
tells_make t kind parents None = tt
tells_make t kind parents (Some name) = behind t.places (room_for t.limit t.places parents name) _ (λ at h. tt)

tells_rmdir : (places : List Place) (parents : List (List ℕ)) (name : Option (List ℕ)) → TellsIf places (rmdir places parents name)
tells_rmdir places parents None = tt
tells_rmdir places parents (Some name) =
    behind places (walk places 0 parents) _ (λ dir h. behind places (entry_of (slice_get places dir) name) _ (λ node g. behind places (empty_at places node) _ (λ u e. tt)))

tells_unlink : (places : List Place) (parents : List (List ℕ)) (name : Option (List ℕ)) → TellsIf places (unlink places parents name)
tells_unlink places parents None = tt
tells_unlink places parents (Some name) =
    behind places (walk places 0 parents) _ (λ dir h. behind places (entry_of (slice_get places dir) name) _ (λ node g. behind places (file_of (slice_get places node)) _ (λ u e. tt)))

tells_lands : (places : List Place) (above : List (List ℕ)) (was : List ℕ) (node : ℕ) (parents : List (List ℕ)) (name : List ℕ) (to : ℕ) (target : Option ℕ) → TellsIf places (lands places above was node parents name to target)
tells_lands places above was node parents name to target =
    either places (is_same target node) _ _ tt
    (behind places (fits_place places node (comes_by places node 0 parents) target) _ (λ u h. behind places (walk places 0 above) _ (λ from g. tt)))

tells_leaves : (places : List Place) (above : List (List ℕ)) (was : Option (List ℕ)) (node : ℕ) (parents : List (List ℕ)) (name : List ℕ) (to : ℕ) (target : Option ℕ) → TellsIf places (leaves places above was node parents name to target)
tells_leaves places above None node parents name to target = tt
tells_leaves places above (Some was) node parents name to target = behind places (fits_name places to name node target) _ (λ u h. tells_lands places above was node parents name to target)

tells_goes : (places : List Place) (above : List (List ℕ)) (was : Option (List ℕ)) (node : ℕ) (parents : List (List ℕ)) (name : Option (List ℕ)) → TellsIf places (goes_to places above was node parents name)
tells_goes places above was node parents None = tt
tells_goes places above was node parents (Some name) =
    behind places (walk places 0 parents) _ (λ to h. behind places (target_in (slice_get places to) name) _ (λ target g. behind places (fits_file places node target) _ (λ u e. tells_leaves places above was node parents name to target)))

tells_rename : (t : PlainTree) (old new : List (List ℕ)) → TellsIf t.places (rename t old new)
tells_rename t old new =
    behind t.places (unless (is_long t.limit (last new)) _) _ (λ u h. behind t.places (walk t.places 0 old) _ (λ node g. tells_goes t.places (front old) (last old) node (front new) (last new)))

tells_names : (places : List Place) (parts : List (List ℕ)) → TellsIf places (names_in places parts)
tells_names places parts = behind places (walk places 0 parts) _ (λ at h. behind places (dir_of (slice_get places at)) _ (λ d g. tt))

tells_resolve : (places : List Place) (parts : List (List ℕ)) → TellsIf places (resolve places parts)
tells_resolve places parts = behind places (walk places 0 parts) _ (λ at h. behind places (file_of (slice_get places at)) _ (λ u g. file_there (slice_get places at) u g))

tells_stat : (places : List Place) (parts : List (List ℕ)) → TellsIf places (stat places parts)
tells_stat places parts = behind places (walk places 0 parts) _ (λ at h. tt)

tells : (t : PlainTree) (call : TreeCall) → TellsIf t.places (tested t call)
tells t (calls.Resolve p) = tells_resolve t.places p
tells t (calls.Create p) = tells_make t kinds.File (front p) (last p)
tells t (calls.Mkdir p) = tells_make t kinds.Dir (front p) (last p)
tells t (calls.Rmdir p) = tells_rmdir t.places (front p) (last p)
tells t (calls.Unlink p) = tells_unlink t.places (front p) (last p)
tells t (calls.Rename paths) = tells_rename t paths.old paths.new
tells t (calls.List p) = tells_names t.places p
tells t (calls.Stat p) = tells_stat t.places p

tells_node : (places : List Place) (reply : TreeReply) (n : ℕ) → reply ≡ replies.Node n → TellsFile places reply → slice_get places n ≡ Some File
tells_node places reply n e h = subst (TellsFile places) e h

made_node : (next n : ℕ) (kind : Kind) → made_reply next kind ≡ replies.Node n → n ≡ next
made_node next n kinds.Dir h = absurd cc
made_node next n kinds.File h = cc

by_test : (t : PlainTree) (r : Tested) (n : ℕ) → TellsIf t.places r → (stepped t (or_refused r)).reply ≡ replies.Node n → (slice_get t.places n ≡ Some File) ⊎ (n ≡ length t.places)
by_test t (Ok (prepared.Answer reply)) n h is = inl (tells_node t.places reply n is h)
by_test t (Ok (prepared.Change (Make m))) n h is = inr (made_node (length t.places) n m.kind is)
by_test t (Ok (prepared.Change (Remove r))) n h is = absurd cc
by_test t (Ok (prepared.Change (Move m))) n h is = absurd cc
by_test t (Err refusal) n h is = absurd cc

-- a step tells the number of a file that is there, or of one that it makes, at the end
pub node_of_step : (t : PlainTree) (call : TreeCall) (n : ℕ) → (step t call).reply ≡ replies.Node n → (slice_get t.places n ≡ Some File) ⊎ (n ≡ length t.places)
node_of_step t call n is = by_test t (tested t call) n (tells t call) is
