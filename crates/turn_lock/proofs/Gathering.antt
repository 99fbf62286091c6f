-- All seats, as one holder gathers them.
use Rattle.std.proofs.Common.{◌≡◌, ◌≢◌, ◌⊎◌, ℕ, suc, ◌<◌, List, [], ◌∷◌, ◌++◌, length, cond, refl, ap, sym, ◌∙◌, subst, inl, inr, ⊎_elim, arith, eq-eqb, ne_eqb, Some}
use Rattle.std.specs.Prelude.{All, Any, Contains}
use mathlib.Core.Logic.{dite}
use mathlib.Core.List.{IsPrefix}
use native.Mathlib.Decide.{ℕ_discrete}
use Rattle.std.proofs.lemmas.List.Elements.{All-nil, All-head, All-tail, All-push, All-pop, Contains-push_cases}
use Rattle.turn_lock.specs.Views.{LockView, SeatView}
use Rattle.turn_lock.specs.Turns.{session_entries, HasEachSession, EndsFor}
use Rattle.turn_lock.specs.declared.holder.Holder.{Holder}
use Rattle.turn_lock.specs.Steps.{gathering_holder, IsOwner, HasAll, IsEndLog}

any_push : {A : Type 0} (P : A → Type 0) (xs : List A) (y : A) → Any P (xs ++ y ∷ []) → Any P xs ⊎ P y
any_push P xs y any = ⊎_elim (λ (at : Contains xs any.1). inl (at.0, any.1, at.1, at.2, any.4)) (λ (is : y ≡ any.1). inr (subst P (sym is) any.4)) (Contains-push_cases xs y any.1 (any.0, any.2, any.3))

-- a list without an element
pub none_left : {A : Type 0} (xs : List A) → length xs ≡ 0 → xs ≡ []
none_left [] long = refl
none_left (x ∷ xs) long = absurd (omega arith)

pub any_none : {A : Type 0} (P : A → Type 0) (xs : List A) → xs ≡ [] → Any P xs → ⊥
any_none P xs none any = let long = ap length none in let lt = any.2 in absurd (omega arith)

any_more : {A : Type 0} (P : A → Type 0) (x : A) (xs : List A) → Any P xs → Any P (x ∷ xs)
any_more P x xs any = let lt = any.2 in (suc any.0, any.1, omega arith, any.3, any.4)

pub all_front : {A : Type 0} (P : A → Type 0) (all items : List A) (x : A) → all ≡ items ++ x ∷ [] → All P all → All P items × P x
all_front P all items x is h = All-pop P all items (Some x) is h

-- The holder v gathered all seats but those that are left
pub record IsGathering {T E : Type 0} (session_of : E → ℕ) (lock : LockView T) (all left : List (SeatView T E)) (v : Holder T E) : Type 0 where
  pub locks : All (λ seat. seat.lock ≡ lock) left
  pub sessions : (v.sessions ≡ lock.sessions) ⊎ ((v.sessions ≡ 0) × Any (λ seat. seat.session ≡ 0) left)
  pub each : (t : ℕ) → t < lock.sessions → ((v.session ≡ t) ⊎ Any (λ g. g.0 ≡ t) v.gathered) ⊎ Any (λ seat. seat.session ≡ t) left
  pub ends : (log : List E) → IsEndLog session_of v log → All (EndsFor session_of log) left → All (EndsFor session_of log) all

module _ {T E : Type 0} (session_of : E → ℕ) (lock : LockView T) (all : List (SeatView T E)) where
  -- the end of the log for a seat that is its holder's
  ends_for : (seat : SeatView T E) (v : Holder T E) (log : List E) → IsOwner seat v → IsPrefix v.seen log → session_entries session_of v.session log ≡ v.mine → EndsFor session_of log seat
  ends_for seat v log o seen mine = record {
    seen = subst (λ (xs : List E). IsPrefix xs log) o.seen seen;
    mine = ap (λ (t : ℕ). session_entries session_of t log) (sym o.session) ∙ (mine ∙ o.mine);
  }

  -- with the first one
  pub begins : (left : List (SeatView T E)) (seat : SeatView T E) (v : Holder T E) → all ≡ left ++ seat ∷ [] → IsOwner seat v → All (λ seat. seat.lock ≡ lock) all → HasEachSession lock.sessions all → 0 < lock.sessions → IsGathering session_of lock all left v
  begins left seat v is o locks each some_session =
      let front = all_front (λ seat. seat.lock ≡ lock) all left seat is locks in
      let any : (t : ℕ) → t < lock.sessions → Any (λ seat. seat.session ≡ t) left ⊎ (seat.session ≡ t) =
      λ t lt. any_push (λ seat. seat.session ≡ t) left seat (subst (Any (λ seat. seat.session ≡ t)) is (each t lt)) in
      record {
        locks = front.0;
        sessions = dite (ℕ_discrete seat.session 0)
            (λ zeroth. inl (o.first zeroth ∙ ap (λ (l : LockView T). l.sessions) front.1))
            (λ other. inr (o.others other, ⊎_elim (λ there. there) (λ (own : seat.session ≡ 0). absurd (other own)) (any 0 some_session)));
        each = λ t lt. ⊎_elim (λ there. inr there) (λ (own : seat.session ≡ t). inl (inl (o.session ∙ own))) (any t lt);
        ends = λ log end rest. subst (All (EndsFor session_of log)) (sym is) (All-push (EndsFor session_of log) left seat rest (ends_for seat v log o end.seen end.mine));
      }

  -- with one more
  pub more : (left left' : List (SeatView T E)) (seat : SeatView T E) (v w : Holder T E) → left ≡ left' ++ seat ∷ [] → IsOwner seat w → 0 < lock.sessions → IsGathering session_of lock all left v → IsGathering session_of lock all left' (gathering_holder v w)
  more left left' seat v w is o some_session g =
      let front = all_front (λ seat. seat.lock ≡ lock) left left' seat is g.locks in
      let x : Holder T E = gathering_holder v w in
      let any : (t : ℕ) → Any (λ seat. seat.session ≡ t) left → Any (λ seat. seat.session ≡ t) left' ⊎ (seat.session ≡ t) =
      λ t there. any_push (λ seat. seat.session ≡ t) left' seat (subst (Any (λ seat. seat.session ≡ t)) is there) in
      let kept : v.sessions ≢ 0 → x.sessions ≡ v.sessions = λ ne. ap (λ b. cond b w.sessions v.sessions) (ne_eqb v.sessions 0 ne) in
      let taken : v.sessions ≡ 0 → x.sessions ≡ w.sessions = λ e. ap (λ b. cond b w.sessions v.sessions) (eq-eqb v.sessions 0 e) in
      record {
        locks = front.0;
        sessions = ⊎_elim
            (λ (had : v.sessions ≡ lock.sessions). inl (kept (λ e. omega arith) ∙ had))
            (λ (h : (v.sessions ≡ 0) × Any (λ seat. seat.session ≡ 0) left). dite (ℕ_discrete seat.session 0)
            (λ zeroth. inl (taken h.0 ∙ (o.first zeroth ∙ ap (λ (l : LockView T). l.sessions) front.1)))
            (λ other. inr (taken h.0 ∙ o.others other, ⊎_elim (λ there. there) (λ (own : seat.session ≡ 0). absurd (other own)) (any 0 h.1))))
            g.sessions;
        each = λ t lt. ⊎_elim
            (λ (h : (v.session ≡ t) ⊎ Any (λ g. g.0 ≡ t) v.gathered).
            inl (⊎_elim (λ (own : v.session ≡ t). inl own) (λ (there : Any (λ g. g.0 ≡ t) v.gathered). inr (any_more (λ g. g.0 ≡ t) (w.session, w.mine) v.gathered there)) h))
            (λ (h : Any (λ seat. seat.session ≡ t) left). ⊎_elim (λ there. inr there)
            (λ (own : seat.session ≡ t). inl (inr (0, (w.session, w.mine), omega arith, refl, o.session ∙ own))) (any t h))
            (g.each t lt);
        ends = λ log end rest.
            let begins : List E → Type 0 = λ xs. IsPrefix xs log in
            let entries : ℕ × List E → Type 0 = λ g. session_entries session_of g.0 log ≡ g.1 in
            let before : IsEndLog session_of v log = record { seen = end.seen; aside = All-tail begins w.seen v.aside end.aside; mine = end.mine; gathered = All-tail entries (w.session, w.mine) v.gathered end.gathered } in
            let here : EndsFor session_of log seat = ends_for seat w log o (All-head begins w.seen v.aside end.aside) (All-head entries (w.session, w.mine) v.gathered end.gathered) in
            g.ends log before (subst (All (EndsFor session_of log)) (sym is) (All-push (EndsFor session_of log) left' seat rest here));
      }

  -- with all of them
  pub all_gathered : (left : List (SeatView T E)) (v : Holder T E) → left ≡ [] → IsGathering session_of lock all left v
      → (v.sessions ≡ lock.sessions) × HasAll lock.sessions v × ((log : List E) → IsEndLog session_of v log → All (EndsFor session_of log) all)
  all_gathered left v none g = (
    ⊎_elim (λ had. had) (λ (h : (v.sessions ≡ 0) × Any (λ seat. seat.session ≡ 0) left). absurd (any_none (λ seat. seat.session ≡ 0) left none h.1)) g.sessions,
    (λ t lt. ⊎_elim (λ had. had) (λ (h : Any (λ seat. seat.session ≡ t) left). absurd (any_none (λ seat. seat.session ≡ t) left none h)) (g.each t lt)),
    (λ log end. g.ends log end (subst (All (EndsFor session_of log)) (sym none) (All-nil (EndsFor session_of log)))),
  )
