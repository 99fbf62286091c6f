-- What calls on bodies in memory do, as stores of bodies promise it.
use Rattle.std.proofs.Common.{◌≡◌, ◌≢◌, ℕ, ◌≤◌, ◌+◌, ◌-◌, ◌/◌, ◌%◌, inl, inr, true, false, Bool, List, [], length, Some, None, Result, Ok, Err, refl, sym, ap, subst, ◌∙◌, arith}
use Rattle.std.specs.Prelude.{OnOk, OnErr}
use Rattle.std.proofs.lemmas.List.{nil_from_length}
use Rattle.std.proofs.lemmas.Bool.{cases_eq}
use Rattle.answer_model.specs.Count.{Rose, next_count}
use Rattle.octet_model.specs.Octets.{AreOctets}
use Rattle.body_model.specs.LowerFile.{IsOfOctets}
use Rattle.body_model.specs.BodyCalls.{IsCall, KeepsFiles, KeepsOthers, ChangesBody, KeepsBody, HasAttribute, HasRooms, Writes, Tears, Resizes}
use Rattle.lower_tree.specs.Held.{stores}
use Rattle.lower_tree.specs.Making.{sum_of_counts}
use Rattle.lower_tree.specs.Calls.{is_fault}
use Rattle.lower_mem.specs.Plan.{fails_next, behind_call, or_memory}
use Rattle.lower_mem.specs.Files.{FileInMemory, nothing, with_body, with_rooms, put_at, resized, torn}
use Rattle.lower_mem.specs.Bodies.{BodiesInMemory, bodies_held, file_at_node, place_of, behind_any, behind_read, behind_change, with_file, with_files, with_rooms_at, padded}
use Rattle.lower_mem.proofs.NodeFiles.{at_other, at_node, at_padded, at_placed, place_own, length_padded}
use Rattle.lower_mem.proofs.Written.{put_writes, put_tears, torn_few, resizes, keeps_length}

-- rooms that are no smaller
pub record NoLess (old new : FileInMemory) : Type 0 where
  pub body : old.body_room ≤ new.body_room
  pub attribute : old.attribute_room ≤ new.attribute_room

same_rooms : (old new : FileInMemory) → old ≡ new → NoLess old new
same_rooms old new e = subst (NoLess old) e (record { body = omega arith; attribute = omega arith })

-- ---- counts

-- what a plan's next call adds to the faults
pub record Counted (old new : ℕ) (failed : Bool) : Type 0 where
  pub later : old ≤ new
  pub rose : failed ≡ true → Rose old new
  pub stays : failed ≡ false → new ≡ old

pub counted_change : (b : BodiesInMemory) (failed : Bool) → fails_next b.changes ≡ failed → Counted (sum_of_counts b.changes.faults b.reads.faults) (sum_of_counts (behind_call b.changes).faults b.reads.faults) failed
counted_change b true is = rw is (record { later = omega arith; rose = λ _. omega arith; stays = λ e. absurd cc })
counted_change b false is = rw is (record { later = omega arith; rose = λ e. absurd cc; stays = λ _. refl })

pub counted_read : (b : BodiesInMemory) (failed : Bool) → fails_next b.reads ≡ failed → Counted (sum_of_counts b.changes.faults b.reads.faults) (sum_of_counts b.changes.faults (behind_call b.reads).faults) failed
counted_read b true is = rw is (record { later = omega arith; rose = λ _. omega arith; stays = λ e. absurd cc })
counted_read b false is = rw is (record { later = omega arith; rose = λ e. absurd cc; stays = λ _. refl })

-- ---- calls

module _ (b new : BodiesInMemory) (failed : Bool) (calls : new.calls ≡ next_count b.calls) (counted : Counted (bodies_held b).faults (bodies_held new).faults failed) where
  pub is_call : ((k : ℕ) → NoLess (file_at_node b k) (file_at_node new k)) → IsCall failed (bodies_held b) (bodies_held new)
  is_call rooms = record {
    calls = calls;
    later = counted.later;
    rose = counted.rose;
    stays = counted.stays;
    told = refl;
    body_room = λ k. (rooms k).body;
    attribute_room = λ k. (rooms k).attribute;
  }

pub any_call : (b : BodiesInMemory) (failed : Bool) → failed ≡ false → IsCall failed (bodies_held b) (bodies_held (behind_any b))
any_call b failed is = is_call b (behind_any b) failed refl (record { later = omega arith; rose = λ e. absurd cc; stays = λ _. refl }) (λ k. same_rooms (file_at_node b k) (file_at_node b k) refl)

pub read_call : (b : BodiesInMemory) (failed : Bool) → failed ≡ fails_next b.reads → IsCall failed (bodies_held b) (bodies_held (behind_read b))
read_call b failed is = is_call b (behind_read b) failed refl (counted_read b failed (sym is)) (λ k. same_rooms (file_at_node b k) (file_at_node b k) refl)

pub no_change : (b : BodiesInMemory) (failed : Bool) → failed ≡ fails_next b.changes → IsCall failed (bodies_held b) (bodies_held (behind_change b))
no_change b failed is = is_call b (behind_change b) failed refl (counted_change b failed (sym is)) (λ k. same_rooms (file_at_node b k) (file_at_node b k) refl)

-- ---- one file changed

module _ (b : BodiesInMemory) (node : ℕ) (f : FileInMemory) where
  abbrev after : BodiesInMemory
  after = with_file node f (behind_change b)

  others : (k : ℕ) → k ≢ node → file_at_node after k ≡ file_at_node b k
  others k ne = at_other (behind_change b) node f k ne

  own : (P : FileInMemory → Type 0) → (file_at_node b node ≡ nothing → P nothing) → P f → P (file_at_node after node)
  own P none some = at_node (behind_change b) node f P none some

  pub change_call : (failed : Bool) → failed ≡ fails_next b.changes → NoLess (file_at_node b node) f → IsCall failed (bodies_held b) (bodies_held after)
  change_call failed is rooms = is_call b after failed refl (counted_change b failed (sym is)) (λ k. elim (cases_eq k node) [
    | inl e ↦ subst (λ (m : ℕ). NoLess (file_at_node b m) (file_at_node after m)) (sym e) (own (NoLess (file_at_node b node)) (λ none. same_rooms (file_at_node b node) nothing none) rooms)
    | inr ne ↦ same_rooms (file_at_node b k) (file_at_node after k) (sym (others k ne))
  ])

  pub keeps_others : (IsOfOctets (file_at_node b node).file → IsOfOctets f.file) → KeepsOthers node (bodies_held b) (bodies_held after)
  keeps_others octets = record {
    others = λ told k ne. ap (λ (x : FileInMemory). x.file) (others k ne);
    octets = λ told was. own (λ (x : FileInMemory). IsOfOctets x.file) (λ none. (tt, tt)) (octets was);
  }

  pub body_changed : (Change : List ℕ → List ℕ → Type 0) → (file_at_node b node ≡ nothing → Change [] []) → Change (file_at_node b node).file.body f.file.body → f.file.attribute ≡ (file_at_node b node).file.attribute
      → ChangesBody Change node (bodies_held b) (bodies_held after)
  body_changed Change none some same told =
      own (λ (x : FileInMemory). Change (file_at_node b node).file.body x.file.body × (x.file.attribute ≡ (file_at_node b node).file.attribute))
      (λ is. subst (λ (x : FileInMemory). Change x.file.body [] × (None ≡ x.file.attribute)) (sym is) (none is, refl))
      (some, same)

  pub body_kept : f.file.body ≡ (file_at_node b node).file.body → KeepsBody node (bodies_held b) (bodies_held after)
  body_kept same told = own (λ (x : FileInMemory). x.file.body ≡ (file_at_node b node).file.body) (λ is. ap (λ (x : FileInMemory). x.file.body) (sym is)) same

  pub attribute_set : (octets : List ℕ) → 1 ≤ (file_at_node b node).attribute_room → f.file.attribute ≡ Some octets → HasAttribute node octets (bodies_held after)
  attribute_set octets room is told = own (λ (x : FileInMemory). x.file.attribute ≡ Some octets) (λ none. (let zero : (file_at_node b node).attribute_room ≡ 0 = ap (λ (x : FileInMemory). x.attribute_room) none in absurd (omega arith))) is

-- ---- octets put, torn ones left, another length

module _ (b : BodiesInMemory) (node : ℕ) where
  abbrev file : FileInMemory
  file = file_at_node b node

  no_room : file ≡ nothing → file.body_room ≡ 0
  no_room none = ap (λ (x : FileInMemory). x.body_room) none

  pub body_call : (body : List ℕ) (failed : Bool) → failed ≡ fails_next b.changes → IsCall failed (bodies_held b) (bodies_held (with_file node (with_body body file) (behind_change b)))
  body_call body failed is = change_call b node (with_body body file) failed is (record { body = omega arith; attribute = omega arith })

  pub body_octets : (body : List ℕ) → (AreOctets file.file.body → AreOctets body) → KeepsOthers node (bodies_held b) (bodies_held (with_file node (with_body body file) (behind_change b)))
  body_octets body new = keeps_others b node (with_body body file) (λ was. (new was.0, was.1))

  pub octets_put : (at : ℕ) (octets : List ℕ) → at + length octets ≤ file.body_room → ChangesBody (Writes at octets) node (bodies_held b) (bodies_held (with_file node (with_body (put_at at octets file.file.body) file) (behind_change b)))
  octets_put at octets fits =
      body_changed b node (with_body (put_at at octets file.file.body) file) (Writes at octets)
      (λ none.
      let at_none : 0 ≡ at = omega (arith, no_room none) in
      let empty : octets ≡ [] = nil_from_length octets (omega (arith, no_room none)) in
      subst (λ (n : ℕ). Writes n octets [] []) at_none (subst (λ (xs : List ℕ). Writes 0 xs [] []) (sym empty) (put_writes 0 [] [])))
      (put_writes at octets file.file.body) refl

  pub octets_torn : (at count : ℕ) → at + count ≤ file.body_room → ChangesBody (Tears at count) node (bodies_held b) (bodies_held (with_file node (with_body (put_at at (torn count) file.file.body) file) (behind_change b)))
  octets_torn at count fits =
      body_changed b node (with_body (put_at at (torn count) file.file.body) file) (Tears at count)
      (λ none.
      let at_none : 0 ≡ at = omega (arith, no_room none) in
      let count_none : 0 ≡ count = omega (arith, no_room none) in
      subst (λ (n : ℕ). Tears n count [] []) at_none (subst (λ (n : ℕ). Tears 0 n [] []) count_none (put_tears 0 [] [] 0 (omega arith))))
      (put_tears at (torn count) file.file.body count (torn_few count)) refl

  pub len_set : (len : ℕ) → len ≤ file.body_room → ChangesBody (Resizes len) node (bodies_held b) (bodies_held (with_file node (with_body (resized len file.file.body) file) (behind_change b)))
  len_set len fits =
      body_changed b node (with_body (resized len file.file.body) file) (Resizes len)
      (λ none. let len_none : 0 ≡ len = omega (arith, no_room none) in subst (λ (n : ℕ). Resizes n [] []) len_none (keeps_length []))
      (resizes len file.file.body) refl

-- ---- rooms

module _ (b : BodiesInMemory) (node body attribute : ℕ) where
  abbrev roomy : BodiesInMemory
  roomy = with_files (padded (node / stores + 1) b.files) b

  abbrev taken : FileInMemory
  taken = with_rooms body attribute (file_at_node b node)

  others_there : (k : ℕ) → k ≢ node → file_at_node (with_rooms_at node body attribute b) k ≡ file_at_node b k
  others_there k ne = at_other roomy node taken k ne ∙ at_padded b (node / stores + 1) k

  own_there : (P : FileInMemory → Type 0) → (file_at_node b node ≡ nothing → P nothing) → P (with_rooms body attribute (file_at_node b node)) → P (file_at_node (with_rooms_at node body attribute b) node)
  own_there P none some =
      at_node roomy node taken P (λ is. none (sym (at_padded b (node / stores + 1) node) ∙ is)) some

  -- no room shrinks, and no file changes
  pub rooms_grow : (k : ℕ) → NoLess (file_at_node b k) (file_at_node (with_rooms_at node body attribute b) k)
  rooms_grow k = elim (cases_eq k node) [
    | inl e ↦ subst (λ (m : ℕ). NoLess (file_at_node b m) (file_at_node (with_rooms_at node body attribute b) m)) (sym e)
        (own_there (NoLess (file_at_node b node)) (same_rooms (file_at_node b node) nothing) (record { body = omega arith; attribute = omega arith }))
    | inr ne ↦ same_rooms (file_at_node b k) (file_at_node (with_rooms_at node body attribute b) k) (sym (others_there k ne))
  ]

  pub files_stay : (k : ℕ) → (file_at_node (with_rooms_at node body attribute b) k).file ≡ (file_at_node b k).file
  files_stay k = elim (cases_eq k node) [
    | inl e ↦ subst (λ (m : ℕ). (file_at_node (with_rooms_at node body attribute b) m).file ≡ (file_at_node b m).file) (sym e)
        (own_there (λ (x : FileInMemory). x.file ≡ (file_at_node b node).file) (λ none. ap (λ (x : FileInMemory). x.file) (sym none)) refl)
    | inr ne ↦ ap (λ (x : FileInMemory). x.file) (others_there k ne)
  ]

  -- a node of the store has its rooms
  pub rooms_there : node % stores ≡ b.number → HasRooms (bodies_held (with_rooms_at node body attribute b)) node body attribute
  rooms_there own =
      let at : place_of roomy node ≡ node / stores = place_own roomy node own in
      let long : length roomy.files ≡ length b.files + (node / stores + 1 - length b.files) = length_padded (node / stores + 1) b.files in
      let is = at_placed roomy node taken (omega (arith, at, long)) in
      rw is (omega arith, omega arith)

-- how a call that takes room ends
module _ (b new : BodiesInMemory) (node body attribute : ℕ) (rest : new ≡ with_files new.files (behind_any b)) where
  counted_none : Counted (bodies_held b).faults (bodies_held new).faults false
  counted_none = (let same : (bodies_held new).faults ≡ (bodies_held b).faults = ap (λ (x : BodiesInMemory). (bodies_held x).faults) rest in record { later = omega (arith, same); rose = λ e. absurd cc; stays = λ _. same })

  pub rooms_call : {A E : Type 0} → (r : Result A E) → OnOk r (new ≡ with_rooms_at node body attribute (behind_any b)) → OnErr r ((k : ℕ) → file_at_node new k ≡ file_at_node b k) → IsCall (is_fault (or_memory r)) (bodies_held b) (bodies_held new)
  rooms_call (Ok x) ok err = is_call b new false (ap (λ (x : BodiesInMemory). x.calls) rest) counted_none (λ k. subst (λ (x : BodiesInMemory). NoLess (file_at_node b k) (file_at_node x k)) (sym ok) (rooms_grow (behind_any b) node body attribute k))
  rooms_call (Err e) ok err = is_call b new false (ap (λ (x : BodiesInMemory). x.calls) rest) counted_none (λ k. same_rooms (file_at_node b k) (file_at_node new k) (sym (err k)))

  pub rooms_keep : {A E : Type 0} → (r : Result A E) → OnOk r (new ≡ with_rooms_at node body attribute (behind_any b)) → OnErr r ((k : ℕ) → file_at_node new k ≡ file_at_node b k) → KeepsFiles (bodies_held b) (bodies_held new)
  rooms_keep (Ok x) ok err told k = subst (λ (x : BodiesInMemory). (file_at_node x k).file ≡ (file_at_node b k).file) (sym ok) (files_stay (behind_any b) node body attribute k)
  rooms_keep (Err e) ok err told k = ap (λ (x : FileInMemory). x.file) (err k)

  pub rooms_has : {A E : Type 0} → (r : Result A E) → OnOk r (new ≡ with_rooms_at node body attribute (behind_any b)) → OnOk r (node % stores ≡ b.number) → OnOk (or_memory r) (HasRooms (bodies_held new) node body attribute)
  rooms_has (Ok x) ok own = subst (λ (x : BodiesInMemory). HasRooms (bodies_held x) node body attribute) (sym ok) (rooms_there (behind_any b) node body attribute own)
  rooms_has (Err e) ok own = tt
