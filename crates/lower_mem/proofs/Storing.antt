-- The files of nodes in eight stores.
use Rattle.std.proofs.Common.{◌≡◌, ◌≢◌, ℕ, zero, suc, ◌<◌, ◌≤◌, ◌+◌, ◌-◌, ◌/◌, ◌%◌, inl, inr, List, [], ◌∷◌, ◌++◌, length, map, Option, Some, None, refl, sym, ap, subst, ◌∙◌, arith, get_or}
use Rattle.std.specs.Prelude.{slice_get, slice_set, unwrap_or}
use Rattle.std.proofs.lemmas.Bool.{cases_lt}
use Rattle.std.proofs.lemmas.Bool.Decides.{eqb_tells}
use Rattle.std.proofs.lemmas.List.{length-set, length_push}
use Rattle.std.proofs.lemmas.Option.{slice_get_within, slice_get_past, slice_get-get_or}
use Rattle.lower_model.specs.declared.node.LowerNode.{LowerNode}
use Rattle.plain_tree.proofs.Places.{slice_get-set, slice_get-push}
use Rattle.names_model.specs.LowerPaths.{file_in, files_of}
use Rattle.body_model.specs.LowerFile.{LowerFile, no_octets}
use Rattle.lower_tree.specs.Held.{stores, file_by, file_at}
use Rattle.body_model.specs.Bodies.{HeldBodies}
use Rattle.lower_mem.specs.Files.{FileInMemory, nothing, stored}
use Rattle.lower_mem.specs.Bodies.{BodiesInMemory, file_at_node, bodies_held, with_files, with_file, first_bodies, files_in, Stored}
use Rattle.lower_mem.proofs.NodeFiles.{at_own, at_other}
use Rattle.lower_mem.proofs.Tallies.{faults_in}
use Rattle.tree_model.proofs.NodeEntries.{slice_get-none}

slice_get-map : (bodies : List BodiesInMemory) (j : ℕ) (P : Option HeldBodies → Option BodiesInMemory → Type 0) → P None None → ((b : BodiesInMemory) → P (Some (bodies_held b)) (Some b)) → P (slice_get (map bodies_held bodies) j) (slice_get bodies j)
slice_get-map [] j P none some = none
slice_get-map (b ∷ bodies) zero P none some = some b
slice_get-map (b ∷ bodies) (suc j) P none some = slice_get-map bodies j P none some

-- the file of a node, in the store that has it
abbrev in_store : Option BodiesInMemory → ℕ → LowerFile
in_store (Some bodies) node = (file_at_node bodies node).file
in_store None node = no_octets

file_at-held : (bodies : List BodiesInMemory) (k : ℕ) → file_at (map bodies_held bodies) k ≡ in_store (slice_get bodies (k % stores)) k
file_at-held bodies k = slice_get-map bodies (k % stores) (λ h b. file_by h k ≡ in_store b k) refl (λ b. refl)

file_of : Option FileInMemory → LowerFile
file_of file = (unwrap_or file nothing).file

module _ (changes reads : List (ℕ × ℕ)) (nodes : List LowerNode) (bodies : List BodiesInMemory) (s : Stored changes reads nodes bodies) where
  stored_by : (o : Option LowerNode) (k : ℕ) → slice_get nodes k ≡ o → file_of (slice_get (files_in (slice_get bodies (k % stores))) (k / stores)) ≡ file_in o
  unfolding file_of
  stored_by (Some node) k is = ap file_of (s.files k node is)
  stored_by None k is =
      let past : length nodes ≤ k = slice_get-none nodes k is in
      let few : length (files_in (slice_get bodies (k % stores))) ≤ k / 8 = omega (arith, s.lengths (k % stores) (omega arith)) in
      ap file_of (slice_get_past (files_in (slice_get bodies (k % stores))) (k / 8) few)

  pub stored_files : (k : ℕ) → file_at (map bodies_held bodies) k ≡ files_of nodes k
  unfolding file_of
  stored_files k =
      let files = files_in (slice_get bodies (k % stores)) in
      file_at-held bodies k ∙ ap (λ (o : Option BodiesInMemory). in_store o k) (s.fresh (k % stores) (omega arith))
      ∙ ap (λ (f : FileInMemory). f.file) (at_own (with_files files (first_bodies changes reads (k % stores))) k refl) ∙ stored_by (slice_get nodes k) k refl

  -- no call failed
  pub stored_calm : (j : ℕ) → faults_in (slice_get bodies j) ≡ 0
  stored_calm j = elim (cases_lt j stores) [
    | inl lt ↦ ap faults_in (s.fresh j lt)
    | inr le ↦ ap faults_in (slice_get_past bodies j (omega (arith, s.count)))
  ]

-- ---- one file more

module _ (changes reads : List (ℕ × ℕ)) (nodes : List LowerNode) (bodies : List BodiesInMemory) (s : Stored changes reads nodes bodies) (node : LowerNode) (b : BodiesInMemory) (at : slice_get bodies (length nodes % 8) ≡ Some b) where
  abbrev j : ℕ
  j = length nodes % 8

  abbrev more : BodiesInMemory
  more = with_files (b.files ++ stored (file_in (Some node)) ∷ []) b

  within : j < length bodies
  within = slice_get_within bodies j b at

  abbrev after : List BodiesInMemory
  after = slice_set bodies j more

  get-own : slice_get after j ≡ Some more
  get-own = elim (eqb_tells j j) [
    | inl e ↦ slice_get-set bodies j j more within ∙ rw e.0 refl
    | inr e ↦ absurd (e.1 refl)
  ]

  get-other : (i : ℕ) → i ≢ j → slice_get after i ≡ slice_get bodies i
  get-other i ne = elim (eqb_tells i j) [
    | inl e ↦ absurd (ne e.1)
    | inr e ↦ slice_get-set bodies j i more within ∙ rw e.0 refl
  ]

  long : length b.files ≡ length nodes / 8
  long = (let h : length b.files ≡ (length nodes + (7 - j)) / 8 = ap (λ (o : Option BodiesInMemory). length (files_in o)) (sym at) ∙ s.lengths j (omega arith) in omega arith)

  lengths : (i : ℕ) → i < stores → length (files_in (slice_get after i)) ≡ (length (nodes ++ node ∷ []) + (7 - i)) / 8
  lengths i lt = elim (eqb_tells i j) [
    | inl e ↦ (let own : length (files_in (slice_get after i)) ≡ length b.files + 1 = ap (λ (m : ℕ). length (files_in (slice_get after m))) e.1 ∙ ap (λ (o : Option BodiesInMemory). length (files_in o)) get-own ∙ length_push b.files (stored (file_in (Some node))) in
        omega (arith, long, own, e.1, length_push nodes node))
    | inr e ↦ (let other : length (files_in (slice_get after i)) ≡ (length nodes + (7 - i)) / 8 = ap (λ (o : Option BodiesInMemory). length (files_in o)) (get-other i e.1) ∙ s.lengths i lt in
        let ne : i ≢ j = e.1 in
        omega (arith, other, length_push nodes node))
  ]

  kept : (k : ℕ) (x : LowerNode) → k < length nodes → slice_get nodes k ≡ Some x → slice_get (files_in (slice_get after (k % 8))) (k / 8) ≡ Some (stored (file_in (Some x)))
  kept k x lt is = elim (eqb_tells (k % 8) j) [
    | inl e ↦ (let old : slice_get b.files (k / 8) ≡ Some (stored (file_in (Some x))) = ap (λ (o : Option BodiesInMemory). slice_get (files_in o) (k / 8)) (sym (ap (slice_get bodies) e.1 ∙ at)) ∙ s.files k x is in
        ap (λ (m : ℕ). slice_get (files_in (slice_get after m)) (k / 8)) e.1 ∙ ap (λ (o : Option BodiesInMemory). slice_get (files_in o) (k / 8)) get-own ∙ further b.files (stored (file_in (Some node))) (k / 8) (stored (file_in (Some x))) old)
    | inr e ↦ ap (λ (o : Option BodiesInMemory). slice_get (files_in o) (k / 8)) (get-other (k % 8) e.1) ∙ s.files k x is
  ]
    where
      further : (xs : List FileInMemory) (y : FileInMemory) (i : ℕ) (x : FileInMemory) → slice_get xs i ≡ Some x → slice_get (xs ++ y ∷ []) i ≡ Some x
      further [] y i x h = absurd cc
      further (z ∷ xs) y zero x h = h
      further (z ∷ xs) y (suc i) x h = further xs y i x h

  new : slice_get (files_in (slice_get after j)) (length nodes / 8) ≡ Some (stored (file_in (Some node)))
  new = ap (λ (o : Option BodiesInMemory). slice_get (files_in o) (length nodes / 8)) get-own ∙ ap (slice_get (b.files ++ stored (file_in (Some node)) ∷ [])) (sym long) ∙ last b.files (stored (file_in (Some node)))
    where
      last : (xs : List FileInMemory) (y : FileInMemory) → slice_get (xs ++ y ∷ []) (length xs) ≡ Some y
      last [] y = refl
      last (x ∷ xs) y = last xs y

  files : (k : ℕ) (x : LowerNode) → slice_get (nodes ++ node ∷ []) k ≡ Some x → slice_get (files_in (slice_get after (k % 8))) (k / 8) ≡ Some (stored (file_in (Some x)))
  files k x is = elim (eqb_tells k (length nodes)) [
    | inl e ↦ (let here : slice_get (nodes ++ node ∷ []) k ≡ Some node = slice_get-push nodes node k ∙ rw e.0 refl in
        let same : node ≡ x = cc in
        subst (λ (i : ℕ). slice_get (files_in (slice_get after (i % 8))) (i / 8) ≡ Some (stored (file_in (Some x)))) (sym e.1) (new ∙ ap (λ (y : LowerNode). Some (stored (file_in (Some y)))) same))
    | inr e ↦ (let there : slice_get nodes k ≡ Some x = sym (slice_get-push nodes node k ∙ rw e.0 refl) ∙ is in kept k x (slice_get_within nodes k x there) there)
  ]

  own_fresh : b ≡ with_files b.files (first_bodies changes reads j)
  own_fresh =
      let same : Some b ≡ Some (with_files b.files (first_bodies changes reads j)) = sym at ∙ s.fresh j (omega arith) ∙ ap (λ (o : Option BodiesInMemory). Some (with_files (files_in o) (first_bodies changes reads j))) at in
      cc

  fresh : (i : ℕ) → i < stores → slice_get after i ≡ Some (with_files (files_in (slice_get after i)) (first_bodies changes reads i))
  fresh i lt = elim (eqb_tells i j) [
    | inl e ↦
        let own : slice_get after j ≡ Some (with_files (files_in (slice_get after j)) (first_bodies changes reads j)) =
        get-own ∙ ap (λ (x : BodiesInMemory). Some (with_files more.files x)) own_fresh
        ∙ ap (λ (o : Option BodiesInMemory). Some (with_files (files_in o) (first_bodies changes reads j))) (sym get-own) in
        subst (λ (m : ℕ). slice_get after m ≡ Some (with_files (files_in (slice_get after m)) (first_bodies changes reads m))) (sym e.1) own
    | inr e ↦ get-other i e.1 ∙ s.fresh i lt ∙ ap (λ (o : Option BodiesInMemory). Some (with_files (files_in o) (first_bodies changes reads i))) (sym (get-other i e.1))
  ]

  pub stored_more : Stored changes reads (nodes ++ node ∷ []) after
  stored_more = record {
    count = length-set bodies j more ∙ s.count;
    fresh = fresh;
    lengths = lengths;
    files = files;
  }

-- ---- no files yet

-- The first stores, without files.
pub record Firsts (changes reads : List (ℕ × ℕ)) (bodies : List BodiesInMemory) (count : ℕ) : Type 0 where
  pub long : length bodies ≡ count
  pub each : (j : ℕ) → j < count → slice_get bodies j ≡ Some (first_bodies changes reads j)

pub one_more : (changes reads : List (ℕ × ℕ)) (bodies : List BodiesInMemory) (count : ℕ) (b : BodiesInMemory) (pushed : List BodiesInMemory) → Firsts changes reads bodies count → b ≡ first_bodies changes reads count → pushed ≡ bodies ++ b ∷ []
    → Firsts changes reads pushed (count + 1)
one_more changes reads bodies count b pushed f first is = rw is (record {
  long = omega (arith, length_push bodies b, f.long);
  each = λ j lt. elim (eqb_tells j (length bodies)) [
    | inl e ↦ (let at : count ≡ j = sym f.long ∙ sym e.1 in
        slice_get-push bodies b j ∙ rw e.0 (ap (λ (x : BodiesInMemory). Some x) (first ∙ ap (first_bodies changes reads) at)))
    | inr e ↦ (let ne : j ≢ length bodies = e.1 in
        slice_get-push bodies b j ∙ rw e.0 (f.each j (omega (arith, f.long))))
  ];
})

pub stored_none : (changes reads : List (ℕ × ℕ)) (bodies : List BodiesInMemory) → Firsts changes reads bodies stores → Stored changes reads [] bodies
stored_none changes reads bodies f = record {
  count = f.long;
  fresh = λ j lt. f.each j lt ∙ ap (λ (o : Option BodiesInMemory). Some (with_files (files_in o) (first_bodies changes reads j))) (sym (f.each j lt));
  lengths = λ j lt. (let none : length (files_in (slice_get bodies j)) ≡ 0 = ap (λ (o : Option BodiesInMemory). length (files_in o)) (f.each j lt) in omega (arith, none));
  files = λ k node is. absurd cc;
}

-- ---- a file taken out

module _ (bodies : List BodiesInMemory) (node : ℕ) (b after : BodiesInMemory) (within : node % 8 < length bodies) (is : b ≡ get_or bodies (node % 8) b) (taken : after ≡ with_file node nothing b) where
  there : slice_get bodies (node % 8) ≡ Some b
  there = slice_get-get_or bodies (node % 8) b within ∙ ap (λ (x : BodiesInMemory). Some x) (sym is)

  -- the files of the other nodes stay
  pub others_stay : (k : ℕ) → k ≢ node → file_at (map bodies_held (slice_set bodies (node % 8) after)) k ≡ file_at (map bodies_held bodies) k
  others_stay k ne =
      file_at-held (slice_set bodies (node % 8) after) k
      ∙ elim (eqb_tells (k % 8) (node % 8)) [
        | inl e ↦ (let get : slice_get (slice_set bodies (node % 8) after) (k % 8) ≡ Some after = slice_get-set bodies (node % 8) (k % 8) after within ∙ rw e.0 refl in
            let old : slice_get bodies (k % 8) ≡ Some b = ap (slice_get bodies) e.1 ∙ there in
            ap (λ (o : Option BodiesInMemory). in_store o k) get
            ∙ ap (λ (x : BodiesInMemory). (file_at_node x k).file) taken
            ∙ ap (λ (f : FileInMemory). f.file) (at_other b node nothing k ne)
            ∙ ap (λ (o : Option BodiesInMemory). in_store o k) (sym old))
        | inr e ↦ (let get : slice_get (slice_set bodies (node % 8) after) (k % 8) ≡ slice_get bodies (k % 8) = slice_get-set bodies (node % 8) (k % 8) after within ∙ rw e.0 refl in
            ap (λ (o : Option BodiesInMemory). in_store o k) get)
      ]
      ∙ sym (file_at-held bodies k)

-- one file more, as it is pushed to the store that gets it
pub stored_next : (changes reads : List (ℕ × ℕ)) (nodes : List LowerNode) (bodies : List BodiesInMemory) (s : Stored changes reads nodes bodies) (node : LowerNode) (number : ℕ) → number ≡ length nodes → (b after : BodiesInMemory) → b ≡ get_or bodies (number % 8) b → after ≡ with_files (b.files ++ stored (file_in (Some node)) ∷ []) b
    → Stored changes reads (nodes ++ node ∷ []) (slice_set bodies (number % 8) after)
stored_next changes reads nodes bodies s node number count b after is pushed =
    let within : number % 8 < length bodies = omega (arith, s.count) in
    let at : slice_get bodies (length nodes % 8) ≡ Some b =
    ap (λ (n : ℕ). slice_get bodies (n % 8)) (sym count) ∙ slice_get-get_or bodies (number % 8) b within ∙ ap (λ (x : BodiesInMemory). Some x) (sym is) in
    rw (count, pushed) (stored_more changes reads nodes bodies s node b at)
