-- What the steps of a turn, and of a note that is learned, tell.
use Rattle.std.proofs.Common.{◌≡◌, ◌⊎◌, ℕ, ◌≤◌, Bool, true, false, List, [], ◌∷◌, ◌++◌, length, cond, sym, refl, ap, ◌∙◌, subst, inl, inr, ⊎_elim, arith, Option, Some, None}
use Rattle.std.specs.Prelude.{All, nat_lt}
use mathlib.Core.List.{IsPrefix}
use Rattle.std.proofs.lemmas.Bool.Decides.{nat_tests}
use Rattle.std.proofs.lemmas.List.Elements.{All-head, All-tail}
use Rattle.atomic_table.specs.Table.{Me, Step, rest}
use Rattle.turn_lock.specs.declared.holder.Holder.{Holder}
use Rattle.turn_lock.specs.declared.holder.Phase.TheVariants.{Idle, InTurn}
use Rattle.turn_lock.specs.Turns.{session_entries, longer}
use Rattle.turn_lock.specs.Steps.{is_idle, learned_holder, Tells, Begins, finished_holder, HasEnded, HasHeard}
use Rattle.turn_lock.proofs.Fronts.{prefix_self, prefix_shorter}
use Rattle.turn_lock.proofs.Holders.{some_is, idle_is, entries_of_own}

pub slot_there : {S : Type 0} (l : List (ℕ × S)) (x : S) (k : ℕ) → l ≡ (k, x) ∷ [] → (y : S) × (l ≡ (k, y) ∷ rest l)
slot_there l x k e = (x, e ∙ ap (λ m. (k, x) ∷ rest m) (sym e))

head_or : {S : Type 0} → S → List (ℕ × S) → S
head_or d [] = d
head_or d (x ∷ xs) = x.1

head_is : {S : Type 0} (x y : S) (l r : List (ℕ × S)) → l ≡ (0, x) ∷ [] → l ≡ (0, y) ∷ r → x ≡ y
unfolding head_or
head_is x y l r e f = ap (head_or x) (sym e ∙ f)

module _ {T E : Type 0} (log_of : T → List E) (session_of : E → ℕ) (lawful : T → T → Type 0) where
  -- the state that the turn began with is the one that was taken out
  pub begun : (n : ℕ) (v : Holder T E) (m : Me (Option T) (Holder T E)) (result : Option T) (state : T) → (b : Begins log_of session_of lawful n v m) → m.1 ≡ (0, result) ∷ rest m.1 → result ≡ Some state → b.state ≡ state
  begun n v m result state b there is = some_is b.state state (head_is (Some b.state) result m.1 (rest m.1) b.slot there ∙ is)

  -- the slot once the state is put back
  pub put_back : (n : ℕ) (v : Holder T E) (m m2 m3 : Me (Option T) (Holder T E)) (state y : T) (b : Begins log_of session_of lawful n v m) → b.state ≡ state → m2 ≡ (m.0, (0, None) ∷ rest m.1) → m3 ≡ (m2.0, (0, Some y) ∷ rest m2.1)
      → m3 ≡ (record v { phase = InTurn n (log_of state) }, (0, Some y) ∷ [])
  put_back n v m m2 m3 state y b same e2 e3 =
      e3 ∙ (ap (λ (z : Me (Option T) (Holder T E)). (z.0, (0, Some y) ∷ rest z.1)) e2
      ∙ ((λ i. (b.view i, (0, Some y) ∷ rest (b.slot i))) ∙ ap (λ (x : T). (record v { phase = InTurn n (log_of x) }, (0, Some y) ∷ [])) same))

  -- a whole turn
  pub ended : {A : Type 0} (answers : T → A → T → Type 0) (answer : A) (n : ℕ) (v : Holder T E) (state y : T) (e : E) (m0 m m' : Me (Option T) (Holder T E)) → is_idle v ≡ true → (b : Begins log_of session_of lawful n v m0) → b.state ≡ state
      → m ≡ (record v { phase = InTurn n (log_of state) }, (0, Some y) ∷ []) → m' ≡ (finished_holder log_of session_of m.0 m.1, [])
      → log_of y ≡ log_of state ++ e ∷ [] → session_of e ≡ v.session → ((o : T) → v.opening ≡ Some o → lawful o y) → answers state answer y
      → (m'.1 ≡ []) × HasEnded log_of session_of lawful answers answer n v m'.0
  ended answers answer n v state y e m0 m m' idle b same is after logs own may told =
      let all : m' ≡ (finished_holder log_of session_of (record v { phase = InTurn n (log_of state) }) ((0, Some y) ∷ []), []) =
      after ∙ ap (λ (z : Me (Option T) (Holder T E)). (finished_holder log_of session_of z.0 z.1, [])) is in
      let old : session_entries session_of v.session (log_of state) ≡ v.mine = subst (λ (x : T). session_entries session_of v.session (log_of x) ≡ v.mine) same b.mine in
      let mine : session_entries session_of v.session (log_of y) ≡ v.mine ++ e ∷ [] =
      ap (session_entries session_of v.session) logs ∙ (entries_of_own session_of v.session (log_of state) e own ∙ ap (λ l. l ++ e ∷ []) old) in
      let phase : v.phase ≡ Idle = idle_is v.phase idle in (
        ap (λ z. z.1) all,
        record {
          before = state;
          after = y;
          entry = e;
          gives = told;
          seen = subst (λ (x : T). IsPrefix v.seen (log_of x)) same b.seen;
          added = logs;
          place = subst (λ (x : T). n ≡ length (log_of x)) same (sym b.long);
          author = own;
          lawful_before = λ o is. subst (λ (x : T). lawful o x) same (b.lawful_state o is);
          lawful_after = may;
          mine = mine;
          view = ap (λ z. z.0) all ∙ (λ i. record v { phase = sym phase i; seen = log_of y; mine = mine i });
        },
      )

shorter_by : (a b : ℕ) (t : Bool) → nat_lt a b ≡ t → ((nat_lt a b ≡ true) × (a ≤ b)) ⊎ ((nat_lt a b ≡ false) × (b ≤ a))
shorter_by a b true e = inl (e, grind (arith, nat_tests))
shorter_by a b false e = inr (e, grind (arith, nat_tests))

shorter : (a b : ℕ) → ((nat_lt a b ≡ true) × (a ≤ b)) ⊎ ((nat_lt a b ≡ false) × (b ≤ a))
shorter a b = shorter_by a b (nat_lt a b) refl

-- a note that was learned
pub heard : {T E : Type 0} (v note : Holder T E) (m m' : Me (Option T) (Holder T E)) (st : Step (Option T)) (k : ℕ) → m ≡ (learned_holder v note, []) → Tells st m k m' → (m'.1 ≡ []) × HasHeard note v m'.0
heard {T} {E} v note m m' st k is told =
    let after : m' ≡ (record v { seen = longer v.seen note.seen; aside = [] }, []) = told.after ∙ ap (λ (z : Me (Option T) (Holder T E)). (record z.0 { aside = [] }, z.1)) is in
    let seen : m'.0.seen ≡ longer v.seen note.seen = ap (λ (z : Me (Option T) (Holder T E)). z.0.seen) after in
    let aside : All (λ xs. IsPrefix xs told.log) (v.seen ∷ note.seen ∷ v.aside) = subst (λ (z : Me (Option T) (Holder T E)). All (λ xs. IsPrefix xs told.log) z.0.aside) is told.aside in
    let mine : IsPrefix v.seen told.log = All-head (λ xs. IsPrefix xs told.log) v.seen (note.seen ∷ v.aside) aside in
    let its : IsPrefix note.seen told.log = All-head (λ xs. IsPrefix xs told.log) note.seen v.aside (All-tail (λ xs. IsPrefix xs told.log) v.seen (note.seen ∷ v.aside) aside) in (
      ap (λ (z : Me (Option T) (Holder T E)). z.1) after,
      ⊎_elim
          (λ (lt : (nat_lt (length v.seen) (length note.seen) ≡ true) × (length v.seen ≤ length note.seen)).
          let one : IsPrefix v.seen note.seen = prefix_shorter v.seen note.seen told.log mine its lt.1 in
          let now : m'.0.seen ≡ note.seen = seen ∙ ap (λ b. cond b note.seen v.seen) lt.0 in
          record { view = ap (λ z. z.0) after; one = inl one; own = subst (λ (l : List E). IsPrefix v.seen l) (sym now) one; told = subst (λ (l : List E). IsPrefix note.seen l) (sym now) (prefix_self note.seen) })
          (λ (ge : (nat_lt (length v.seen) (length note.seen) ≡ false) × (length note.seen ≤ length v.seen)).
          let one : IsPrefix note.seen v.seen = prefix_shorter note.seen v.seen told.log its mine ge.1 in
          let now : m'.0.seen ≡ v.seen = seen ∙ ap (λ b. cond b note.seen v.seen) ge.0 in
          record { view = ap (λ z. z.0) after; one = inr one; own = subst (λ (l : List E). IsPrefix v.seen l) (sym now) (prefix_self v.seen); told = subst (λ (l : List E). IsPrefix note.seen l) (sym now) one })
          (shorter (length v.seen) (length note.seen)),
    )
