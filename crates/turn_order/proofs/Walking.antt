-- Items one behind another, and the ends.
use Rattle.std.proofs.Common.{◌≡◌, ◌≢◌, ℕ, zero, suc, ◌+◌, ◌<◌, ◌≤◌, length, Bool, true, false, List, [], ◌∷◌, ◌++◌, Some, refl, sym, subst, ap, ◌∙◌, arith}
use Rattle.std.specs.Prelude.{slice_set, slice_get, ◌==◌, replicate}
use Rattle.std.specs.List.{AllByRecursion}
use Rattle.std.proofs.lemmas.Option.{slice_get_within}
use Rattle.std.proofs.lemmas.Bool.{eqb-false, eqb-true}
use Rattle.session_model.specs.declared.entry.TreeEntry.{TreeEntry}
use Rattle.session_model.specs.declared.entry.FileEntry.{FileEntry}
use Rattle.session_model.specs.declared.session.Doing.TheVariants.{Ends}
use Rattle.session_model.specs.Histories.{Histories, nothing, joined}
use Rattle.session_model.specs.Session.{Member, Told, asked, after}
use Rattle.session_model.specs.Runs.{Moves}
use Rattle.session_model.specs.Walks.{Walks, RisesFrom, HaveEnded}
use Rattle.session_model.specs.Walks.Item.{Idle, Busy}
use Rattle.session_model.specs.Walks.Walks.{Stop, Next}
use Rattle.session_model.proofs.Joins.{get_set_same, get_set_other, some_same}
use Rattle.session_run.specs.Made.{Grows, Moved, Stays, ItemDone}
use Rattle.session_run.proofs.Growing.{grows_none, grows_more}
use Rattle.session_run.proofs.Moving.{joined_nothing, joined_assoc}
use Rattle.turn_order.specs.Items.{HasFinished, HaveFinished, Strides, Strode, Walked}
use Rattle.turn_order.specs.Order.{RanInOrder}

-- ---- one item

set_same : {A : Type 0} → (xs : List A) (k : ℕ) (x : A) → slice_get xs k ≡ Some x → slice_set xs k x ≡ xs
set_same [] k x e = refl
set_same (y ∷ xs) zero x e = let is : y ≡ x = some_same y x (Some y) refl e in ap (λ (z : _). z ∷ xs) (sym is)
set_same (y ∷ xs) (suc k) x e = ap (λ (l : List _). y ∷ l) (set_same xs k x e)

one_busy : (all next : List Member) (k : ℕ) (made : Histories) (was : Member) (t : Told) → slice_get all k ≡ Some was → Moves was.session made t → next ≡ slice_set all k (after was t) → Walks all (k ∷ []) made next
one_busy all next k made was t at moves goes = Next all (k ∷ []) made next next k [] made nothing (Busy all k made next was t at moves goes) (Stop next [] nothing next refl refl refl) refl (joined_nothing made)

one_idle : (all next : List Member) (k : ℕ) (was : Member) → slice_get all k ≡ Some was → (asked was.session).doing ≡ Ends → next ≡ all → Walks all (k ∷ []) nothing next
one_idle all next k was at ended same = Next all (k ∷ []) nothing next next k [] nothing nothing (Idle all k nothing next was at ended refl same) (Stop next [] nothing next refl refl refl) refl refl

pub walked_one : (done : Bool) (k : ℕ) (tree tree' : List TreeEntry) (logs logs' : ℕ → List FileEntry) (all next : List Member) (was is : Member) → slice_get all k ≡ Some was → next ≡ slice_set all k is
    → ItemDone done tree tree' logs logs' was is → Walked (k ∷ []) tree tree' logs logs' all next
walked_one true k tree tree' logs logs' all next was is at set done = record {
  made = done.made;
  walks = one_busy all next k done.made was done.t at done.moves (set ∙ ap (λ (m : Member). slice_set all k m) done.goes);
  grows = done.grows;
}
walked_one false k tree tree' logs logs' all next was is at set done = record {
  made = nothing;
  walks = one_idle all next k was at done.ended (set ∙ ap (λ (m : Member). slice_set all k m) done.same ∙ set_same all k was at);
  grows = subst (λ (l : ℕ → List FileEntry). Grows tree tree' logs l nothing) (sym done.same_files) (subst (λ (l : List TreeEntry). Grows tree l logs logs nothing) (sym done.same_tree) (grows_none tree logs));
}

-- ---- walks

walks_append : (all mid last : List Member) (items more : List ℕ) (made rest : Histories) → Walks all items made mid → Walks mid more rest last → Walks all (items ++ more) (joined made rest) last
walks_append _ _ last _ more _ rest (Stop all items made mid none empty same) w =
    let w2 : Walks all more (joined nothing rest) last = subst (λ (l : List Member). Walks l more rest last) same w in
    rw (none, empty) w2
walks_append _ _ last _ more _ rest (Next all items log mid at k later made others item walks is adds) w =
    let tail : Walks at (later ++ more) (joined others rest) last = walks_append at mid last later more others rest walks w in
    Next all (items ++ more) (joined log rest) last at k (later ++ more) made (joined others rest) item tail (ap (λ (l : List ℕ). l ++ more) is) (ap (λ (h : Histories). joined h rest) adds ∙ joined_assoc made others rest)

pub walked_none : (tree : List TreeEntry) (logs : ℕ → List FileEntry) (all : List Member) → Walked [] tree tree logs logs all all
walked_none tree logs all = record { made = nothing; walks = Stop all [] nothing all refl refl refl; grows = grows_none tree logs }

walked_append : (items more : List ℕ) (tree tree' tree'' : List TreeEntry) (logs logs' logs'' : ℕ → List FileEntry) (was at is : List Member) → Walked items tree tree' logs logs' was at → Walked more tree' tree'' logs' logs'' at is
    → Walked (items ++ more) tree tree'' logs logs'' was is
walked_append items more tree tree' tree'' logs logs' logs'' was at is a b = record {
  made = joined a.made b.made;
  walks = walks_append was at is items more a.made b.made a.walks b.walks;
  grows = grows_more tree tree' tree'' logs logs' logs'' a.made b.made a.grows b.grows;
}

-- one item more
pub walked_more : (items all : List ℕ) (k : ℕ) (tree tree' tree'' : List TreeEntry) (logs logs' logs'' : ℕ → List FileEntry) (was at is : List Member) → all ≡ items ++ k ∷ [] → Walked items tree tree' logs logs' was at
    → Walked (k ∷ []) tree' tree'' logs' logs'' at is → Walked all tree tree'' logs logs'' was is
walked_more items all k tree tree' tree'' logs logs' logs'' was at is e a b = subst (λ (l : List ℕ). Walked l tree tree'' logs logs'' was is) (sym e) (walked_append items (k ∷ []) tree tree' tree'' logs logs' logs'' was at is a b)

-- ---- many moves of one session

strides_more : (n : ℕ) (was at next : Member) (so_far made : Histories) (t : Told) → Strides n was so_far at → Moves at.session made t → next ≡ after at t → Strides (suc n) was (joined so_far made) next
strides_more zero was at next so_far made t s m e =
    let moves : Moves was.session made t = subst (λ (x : Member). Moves x.session made t) s.1 m in
    let goes : next ≡ after was t = e ∙ ap (λ (x : Member). after x t) s.1 in
    (made, nothing, t, moves, (refl, goes), ap (λ (h : Histories). joined h made) s.0 ∙ joined_nothing made)
strides_more (suc n) was at next so_far made t s m e =
    let later = strides_more n (after was s.2) at next s.1 made t s.4 m e in
    (s.0, joined s.1 made, s.2, s.3, later, ap (λ (h : Histories). joined h made) s.5 ∙ joined_assoc s.0 s.1 made)

pub strode_none : (tree : List TreeEntry) (logs : ℕ → List FileEntry) (m : Member) → Strode tree tree logs logs m m
strode_none tree logs m = record { count = 0; made = nothing; strides = (refl, refl); grows = grows_none tree logs }

-- one move more
pub strode_more : (tree tree' tree'' : List TreeEntry) (logs logs' logs'' : ℕ → List FileEntry) (was at is : Member) → Strode tree tree' logs logs' was at → Moved tree' tree'' logs' logs'' at is → Strode tree tree'' logs logs'' was is
strode_more tree tree' tree'' logs logs' logs'' was at is s m = record {
  count = suc s.count;
  made = joined s.made m.made;
  strides = strides_more s.count was at is s.made m.made m.t s.strides m.moves m.goes;
  grows = grows_more tree tree' tree'' logs logs' logs'' s.made m.made s.grows m.grows;
}

pub has_finished : (tree tree' tree'' : List TreeEntry) (logs logs' logs'' : ℕ → List FileEntry) (was at is : Member) → Strode tree tree' logs logs' was at → Stays tree' tree'' logs' logs'' at is → HasFinished tree tree'' logs logs'' was is
has_finished tree tree' tree'' logs logs' logs'' was at is s stays = record {
  strode = subst (λ (x : Member). Strode tree tree'' logs logs'' was x) (sym stays.same)
      (subst (λ (l : ℕ → List FileEntry). Strode tree tree'' logs l was at) (sym stays.same_files) (subst (λ (l : List TreeEntry). Strode tree l logs logs' was at) (sym stays.same_tree) s));
  ended = subst (λ (x : Member). (asked x.session).doing ≡ Ends) (sym stays.same) stays.ended;
}

set_set : {A : Type 0} → (xs : List A) (k : ℕ) (x y : A) → slice_set (slice_set xs k x) k y ≡ slice_set xs k y
set_set [] k x y = refl
set_set (z ∷ xs) zero x y = refl
set_set (z ∷ xs) (suc k) x y = ap (λ (l : List _). z ∷ l) (set_set xs k x y)

strides_walk : (n : ℕ) (all : List Member) (k : ℕ) (was is : Member) (made : Histories) → slice_get all k ≡ Some was → Strides n was made is → Walks all (replicate n k) made (slice_set all k is)
strides_walk zero all k was is made at s = Stop all [] made (slice_set all k is) refl s.0 (ap (λ (m : Member). slice_set all k m) s.1 ∙ set_same all k was at)
strides_walk (suc n) all k was is made at s =
    let mid = slice_set all k (after was s.2) in
    let tail : Walks mid (replicate n k) s.1 (slice_set all k is) = subst (λ (l : List Member). Walks mid (replicate n k) s.1 l) (set_set all k (after was s.2) is) (strides_walk n mid k (after was s.2) is s.1 (get_set_same all k was (after was s.2) at) s.4) in
    Next all (replicate (suc n) k) made (slice_set all k is) mid k (replicate n k) s.0 s.1 (Busy all k s.0 mid was s.2 at s.3 refl) tail refl s.5

rises_append : (low k n : ℕ) (tail : List ℕ) → RisesFrom low tail → AllByRecursion (λ j. j ≤ k) tail → low ≤ k → RisesFrom low (tail ++ replicate n k)
rises_append low k zero [] r a h = tt
rises_append low k (suc n) [] r a h = (h, rises_append k k n [] tt tt (omega arith))
rises_append low k n (j ∷ tail) r a h = (r.0, rises_append j k n tail r.1 a.1 a.0)

below_append : (k n : ℕ) (tail : List ℕ) → AllByRecursion (λ j. j ≤ k) tail → AllByRecursion (λ j. j ≤ k + 1) (tail ++ replicate n k)
below_append k zero [] a = tt
below_append k (suc n) [] a = (omega arith, below_append k n [] tt)
below_append k n (j ∷ tail) a = (let h = a.0 in omega arith, below_append k n tail a.1)

-- ---- the ends, one session after another

-- The first k sessions have run to their ends.
pub record FinishedSome (k : ℕ) (tree tree' : List TreeEntry) (logs logs' : ℕ → List FileEntry) (was is : List Member) : Type 0 where
  pub tail : List ℕ
  pub walked : Walked tail tree tree' logs logs' was is
  pub rising : RisesFrom 0 tail
  pub below : AllByRecursion (λ j. j ≤ k) tail
  pub ended : (j : ℕ) (m : Member) → j < k → slice_get is j ≡ Some m → (asked m.session).doing ≡ Ends

pub finished_none : (tree : List TreeEntry) (logs : ℕ → List FileEntry) (all : List Member) → FinishedSome 0 tree tree logs logs all all
finished_none tree logs all = record { tail = []; walked = walked_none tree logs all; rising = tt; below = tt; ended = λ j m h e. absurd (omega arith) }

ended_more : (k : ℕ) (at : List Member) (m x : Member) → ((j : ℕ) (y : Member) → j < k → slice_get at j ≡ Some y → (asked y.session).doing ≡ Ends) → slice_get at k ≡ Some m → (asked x.session).doing ≡ Ends
    → (j : ℕ) (y : Member) → j < k + 1 → slice_get (slice_set at k x) j ≡ Some y → (asked y.session).doing ≡ Ends
ended_more k at m x others here ends j y h e = by (j == k) refl where
  by : (b : Bool) → (j == k) ≡ b → (asked y.session).doing ≡ Ends
  by true same =
      let there : slice_get (slice_set at k x) k ≡ Some y = subst (λ (i : ℕ). slice_get (slice_set at k x) i ≡ Some y) (eqb-true j k same) e in
      subst (λ (z : Member). (asked z.session).doing ≡ Ends) (some_same x y _ (get_set_same at k m x here) there) ends
  by false other =
      let apart : j ≢ k = eqb-false j k other in
      others j y (omega arith) (sym (get_set_other at k j x apart) ∙ e)

pub finished_more : (k : ℕ) (tree tree' tree'' : List TreeEntry) (logs logs' logs'' : ℕ → List FileEntry) (was at is : List Member) (m x : Member) → FinishedSome k tree tree' logs logs' was at → slice_get at k ≡ Some m
    → is ≡ slice_set at k x → HasFinished tree' tree'' logs' logs'' m x → FinishedSome (k + 1) tree tree'' logs logs'' was is
finished_more k tree tree' tree'' logs logs' logs'' was at is m x some here set f =
    let s = f.strode in
    let walks : Walks at (replicate s.count k) s.made is = subst (λ (l : List Member). Walks at (replicate s.count k) s.made l) (sym set) (strides_walk s.count at k m x s.made here s.strides) in
    record {
      tail = some.tail ++ replicate s.count k;
      walked = walked_append some.tail (replicate s.count k) tree tree' tree'' logs logs' logs'' was at is some.walked (record { made = s.made; walks = walks; grows = s.grows });
      rising = rises_append 0 k s.count some.tail some.rising some.below (omega arith);
      below = below_append k s.count some.tail some.below;
      ended = λ j y h e. ended_more k at m x some.ended here f.ended j y h (subst (λ (l : List Member). slice_get l j ≡ Some y) set e);
    }

have_ended : (all : List Member) → ((j : ℕ) (m : Member) → slice_get all j ≡ Some m → (asked m.session).doing ≡ Ends) → HaveEnded all
have_ended [] h = tt
have_ended (m ∷ all) h = (h 0 m refl, have_ended all (λ j x e. h (suc j) x e))

pub have_finished : (k : ℕ) (tree tree' : List TreeEntry) (logs logs' : ℕ → List FileEntry) (was is : List Member) → length is ≤ k → FinishedSome k tree tree' logs logs' was is → HaveFinished tree tree' logs logs' was is
have_finished k tree tree' logs logs' was is len some = record {
  tail = some.tail;
  walked = some.walked;
  rising = some.rising;
  ended = have_ended is (λ j m e. (let within : j < length is = slice_get_within is j m e in some.ended j m (omega arith) e));
}

-- the schedule, and then the ends
pub ran_in_order : (schedule : List ℕ) (tree tree' tree'' : List TreeEntry) (logs logs' logs'' : ℕ → List FileEntry) (was at is : List Member) → Walked schedule tree tree' logs logs' was at
    → HaveFinished tree' tree'' logs' logs'' at is → RanInOrder schedule tree tree'' logs logs'' was is
ran_in_order schedule tree tree' tree'' logs logs' logs'' was at is w f =
    let all = walked_append schedule f.tail tree tree' tree'' logs logs' logs'' was at is w f.walked in
    record { made = all.made; order = record { tail = f.tail; walks = all.walks; rising = f.rising; ended = f.ended }; grows = all.grows }
