-- What is known of one holder, and what another's step leaves of it.
use Rattle.std.proofs.Common.{◌≡◌, ◌≢◌, ◌⊎◌, ℕ, zero, suc, ◌+◌, ◌<◌, ◌≤◌, ◌==◌, Bool, true, List, [], ◌∷◌, ◌++◌, length, set, cond, sum_by, sym, refl, ap, ◌∙◌, subst, inl, inr, ⊎_elim, arith, eq-eqb, ne_eqb, Option, Some}
use mathlib.Core.Option.{some, none, some-injective, some-ne-none}
use lib.ListN.{get_elem?}
use Rattle.std.specs.Prelude.{All}
use Rattle.std.proofs.lemmas.List.{append-nil}
use Rattle.std.proofs.lemmas.List.Elements.{filter-append, All-head, All-tail}
use Rattle.atomic_table.specs.Table.{State}
use Rattle.atomic_table.proofs.Lists.{at_set, set_else, at_longer}
use Rattle.turn_lock.specs.declared.holder.Holder.{Holder}
use Rattle.turn_lock.specs.declared.holder.Phase.{Phase}
use Rattle.turn_lock.specs.declared.holder.Phase.TheVariants.{Gone, Told, Idle, Waiting, InTurn}
use Rattle.turn_lock.specs.Turns.{session_entries}
use Rattle.turn_lock.specs.Rule.{Board, tickets_out, IsInTurn, Hears, Sits, HasTicket, HasTurn, Knows, IsHome, IsOut, IsTurnLock}
use Rattle.turn_lock.specs.Steps.{idle_phase, told_phase}
use Rattle.turn_lock.proofs.Sums.{sum_by_le}

-- where one element of a list changes: it is as wanted, and the others are
pub each_set : {S : Type 0} (K : ℕ → S → Type 0) (vs : List S) (me : ℕ) (w : S) → K me w → ((j : ℕ) (v : S) → j ≢ me → get_elem? vs j ≡ some v → K j v)
    → (j : ℕ) (v : S) → get_elem? (set vs me w) j ≡ some v → K j v
each_set {S} K vs me w mine others j v e = ⊎_elim (λ (t : (j ≡ me) × (w ≡ v)). subst (λ (x : ℕ × S). K x.0 x.1) (λ i. (sym t.0 i, t.1 i)) mine)
    (λ (t : (j ≢ me) × (get_elem? vs j ≡ some v)). others j v t.0 t.1) (at_set vs me j w v e)

-- where a list gets one more element
pub each_push : {S : Type 0} (K : ℕ → S → Type 0) (vs : List S) (w : S) → ((j : ℕ) (v : S) → get_elem? vs j ≡ some v → K j v) → K (length vs) w
    → (j : ℕ) (v : S) → get_elem? (vs ++ w ∷ []) j ≡ some v → K j v
each_push K [] w olds new zero v e = subst (K zero) (some-injective w v e) new
each_push K [] w olds new (suc j) v e = absurd (some-ne-none v (sym e))
each_push K (x ∷ xs) w olds new zero v e = olds zero v e
each_push K (x ∷ xs) w olds new (suc j) v e = each_push (λ j v. K (suc j) v) xs w (λ j v at. olds (suc j) v at) new j v e

pub set_there : {S : Type 0} (vs : List S) (i : ℕ) (a b : S) → get_elem? vs i ≡ some a → get_elem? (set vs i b) i ≡ some b
set_there [] i a b e = absurd (some-ne-none a (sym e))
set_there (x ∷ xs) zero a b e = refl
set_there (x ∷ xs) (suc i) a b e = set_there xs i a b e

pub same_there : {S : Type 0} (vs : List S) (i j : ℕ) (a b : S) → get_elem? vs i ≡ some a → get_elem? vs j ≡ some b → i ≡ j → a ≡ b
same_there vs i j a b ea eb e = some-injective a b (sym ea ∙ (ap (get_elem? vs) e ∙ eb))

pub some_is : {S : Type 0} (x y : S) → Some x ≡ Some y → x ≡ y
some_is x y e = cc

-- a number's place in a map that has one more
pub mapped_new : (f : ℕ → ℕ) (n k m : ℕ) → m ≡ n → cond (m == n) k (f m) ≡ k
mapped_new f n k m e = ap (λ b. cond b k (f m)) (eq-eqb m n e)

pub mapped_old : (f : ℕ → ℕ) (n k m : ℕ) → m ≢ n → cond (m == n) k (f m) ≡ f m
mapped_old f n k m e = ap (λ b. cond b k (f m)) (ne_eqb m n e)

module _ {E : Type 0} (session_of : E → ℕ) where
  -- an entry of another session changes nothing for this one
  pub entries_of_other : (session : ℕ) (log : List E) (e : E) → session_of e ≢ session → session_entries session_of session (log ++ e ∷ []) ≡ session_entries session_of session log
  entries_of_other session log e other = filter-append (λ x. session_of x == session) log (e ∷ [])
      ∙ (ap (λ (b : Bool). session_entries session_of session log ++ cond b (e ∷ []) []) (ne_eqb (session_of e) session other) ∙ append-nil (session_entries session_of session log))

  -- an entry of this session comes behind its others
  pub entries_of_own : (session : ℕ) (log : List E) (e : E) → session_of e ≡ session → session_entries session_of session (log ++ e ∷ []) ≡ session_entries session_of session log ++ e ∷ []
  entries_of_own session log e own = filter-append (λ x. session_of x == session) log (e ∷ [])
      ∙ ap (λ (b : Bool). session_entries session_of session log ++ cond b (e ∷ []) []) (eq-eqb (session_of e) session own)

  -- a session that no seat has yet has no entries
  pub entries_of_none : (session : ℕ) (log : List E) → All (λ e. session_of e < session) log → session_entries session_of session log ≡ []
  entries_of_none session [] below = refl
  entries_of_none session (e ∷ log) below =
      let lt : session_of e < session = All-head (λ e. session_of e < session) e log below in
      ap (λ (b : Bool). cond b (e ∷ session_entries session_of session log) (session_entries session_of session log)) (ne_eqb (session_of e) session (λ is. omega arith))
      ∙ entries_of_none session log (All-tail (λ e. session_of e < session) e log below)

module _ {T E : Type 0} (session_of : E → ℕ) (opening : T) where
  abbrev pub Homes : Type 0
  Homes = List (mathlib.Core.Option.Option (Option T))

  -- a holder knows as much of another board, where each of its facts carries over
  pub other_knows : (b b' : Board E) (homes homes' : Homes) (j : ℕ) (v : Holder T E)
      → (Hears opening b.log v → Hears opening b'.log v)
      → (Sits session_of b.log b.sessions b.sitter j v → Sits session_of b'.log b'.sessions b'.sitter j v)
      → ((n : ℕ) → HasTicket b.tickets b.served b.taker j n → HasTicket b'.tickets b'.served b'.taker j n)
      → ((n : ℕ) (found : List E) → HasTurn b.tickets b.served b.taker b.log homes j n found → HasTurn b'.tickets b'.served b'.taker b'.log homes' j n found)
      → (p : Phase E) → Knows session_of opening b homes j v p → Knows session_of opening b' homes' j v p
  other_knows b b' homes homes' j v hear sit wait turn Gone k = tt
  other_knows b b' homes homes' j v hear sit wait turn Told k = hear k
  other_knows b b' homes homes' j v hear sit wait turn Idle k = (hear k.0, sit k.1)
  other_knows b b' homes homes' j v hear sit wait turn (Waiting n) k = (hear k.0, sit k.1, wait n k.2)
  other_knows b b' homes homes' j v hear sit wait turn (InTurn n found) k = (hear k.0, sit k.1, turn n found k.2)

  -- a holder has a part for each ticket that it has out
  fits : (b : Board E) (homes : Homes) (j : ℕ) (v : Holder T E) (p : Phase E) → Knows session_of opening b homes j v p → tickets_out p ≤ v.parts
  fits b homes j v Gone k = omega arith
  fits b homes j v Told k = omega arith
  fits b homes j v Idle k = omega arith
  fits b homes j v (Waiting n) k = let part = k.1.part in omega arith
  fits b homes j v (InTurn n found) k = let part = k.1.part in omega arith

  pub idle_knows : (b : Board E) (homes : Homes) (j : ℕ) (v : Holder T E) (p : Phase E) → idle_phase p ≡ true
      → Knows session_of opening b homes j v p → Hears opening b.log v × Sits session_of b.log b.sessions b.sitter j v × (tickets_out p ≡ 0) × (IsInTurn p → ⊥)
  idle_knows b homes j v Gone is k = absurd (cc)
  idle_knows b homes j v Told is k = absurd (cc)
  idle_knows b homes j v Idle is k = (k.0, k.1, refl, λ h. h)
  idle_knows b homes j v (Waiting n) is k = absurd (cc)
  idle_knows b homes j v (InTurn n found) is k = absurd (cc)

  pub told_knows : (b : Board E) (homes : Homes) (j : ℕ) (v : Holder T E) (p : Phase E) → told_phase p ≡ true
      → Knows session_of opening b homes j v p → Hears opening b.log v × (tickets_out p ≡ 0) × (IsInTurn p → ⊥)
  told_knows b homes j v Gone is k = absurd (cc)
  told_knows b homes j v Told is k = (k, refl, λ h. h)
  told_knows b homes j v Idle is k = absurd (cc)
  told_knows b homes j v (Waiting n) is k = absurd (cc)
  told_knows b homes j v (InTurn n found) is k = absurd (cc)

  pub turn_knows : (b : Board E) (homes : Homes) (j : ℕ) (v : Holder T E) (p : Phase E) → IsInTurn p
      → Knows session_of opening b homes j v p → Sits session_of b.log b.sessions b.sitter j v × (b.served < b.tickets)
  turn_knows b homes j v Gone is k = absurd is
  turn_knows b homes j v Told is k = absurd is
  turn_knows b homes j v Idle is k = absurd is
  turn_knows b homes j v (Waiting n) is k = absurd is
  turn_knows b homes j v (InTurn n found) is k = let next = k.2.next in let taken = k.2.taken in (k.1, omega arith)

pub idle_is : {E : Type 0} (p : Phase E) → idle_phase p ≡ true → p ≡ Idle
idle_is Gone is = absurd (cc)
idle_is Told is = absurd (cc)
idle_is Idle is = refl
idle_is (Waiting n) is = absurd (cc)
idle_is (InTurn n found) is = absurd (cc)

module _ {T E : Type 0} (log_of : T → List E) (session_of : E → ℕ) (lawful : T → T → Type 0) (opening : T) where
  -- at most 16 tickets are out
  pub few_tickets : (s : State (Option T) (Holder T E)) (r : IsTurnLock log_of session_of lawful opening s) → r.board.tickets ≤ r.board.served + 16
  few_tickets s r =
      let out = sum_by_le (λ (v : Holder T E). tickets_out v.phase) (λ (v : Holder T E). v.parts) s.views (λ j v at. fits session_of opening r.board s.homes j v v.phase (r.each j v at)) in
      let queue = r.queue in
      let parts = r.parts in
      omega arith

  -- the one whose turn it is keeps it, where the view of another holder changes
  pub slot_set : (b : Board E) (homes : Homes session_of opening) (views : List (Holder T E)) (id k : ℕ) (v w : Holder T E) → get_elem? views id ≡ some v → (IsInTurn v.phase → ⊥)
      → ((j : ℕ) (u : Holder T E) → get_elem? views j ≡ some u → Knows session_of opening b homes j u u.phase) → (b.served < b.tickets → k ≡ b.taker b.served)
      → IsHome log_of lawful opening b.log homes ⊎ IsOut homes views (b.taker b.served) → IsHome log_of lawful opening b.log homes ⊎ IsOut homes (set views id w) k
  slot_set b homes views id k v w here not each next (inl home) = inl home
  slot_set b homes views id k v w here not each next (inr out) =
      let knows = turn_knows session_of opening b homes (b.taker b.served) out.holder out.holder.phase out.turn (each (b.taker b.served) out.holder out.there) in
      let is : k ≡ b.taker b.served = next knows.1 in
      let apart : k ≢ id = λ e. not (subst (λ (x : Holder T E). IsInTurn x.phase) (same_there views (b.taker b.served) id out.holder v out.there here (sym is ∙ e)) out.turn) in
      inr record { slot = out.slot; holder = out.holder; there = set_else views id k w apart ∙ (ap (get_elem? views) is ∙ out.there); turn = out.turn }

  -- and where one more holder comes
  pub slot_push : (log : List E) (homes : Homes session_of opening) (views : List (Holder T E)) (k : ℕ) (w : Holder T E)
      → IsHome log_of lawful opening log homes ⊎ IsOut homes views k → IsHome log_of lawful opening log homes ⊎ IsOut homes (views ++ w ∷ []) k
  slot_push log homes views k w (inl home) = inl home
  slot_push log homes views k w (inr out) = inr record { slot = out.slot; holder = out.holder; there = at_longer views (w ∷ []) k out.holder out.there; turn = out.turn }

  -- one view changes, and nothing else
  pub replaced : (s : State (Option T) (Holder T E)) (r : IsTurnLock log_of session_of lawful opening s) (id : ℕ) (v w : Holder T E) → get_elem? s.views id ≡ some v
      → sum_by (λ v. tickets_out v.phase) (set s.views id w) ≡ sum_by (λ v. tickets_out v.phase) s.views → sum_by (λ v. v.parts) (set s.views id w) ≤ sum_by (λ v. v.parts) s.views → (IsInTurn v.phase → ⊥)
      → Knows session_of opening r.board s.homes id w w.phase → IsTurnLock log_of session_of lawful opening record { words = s.words; homes = s.homes; views = set s.views id w }
  replaced s r id v w at same fewer not knows = record {
    board = r.board;
    words = r.words;
    few = r.few;
    long = r.long;
    queue = ap (λ (n : ℕ). r.board.served + n) same ∙ r.queue;
    parts = let most = r.parts in omega arith;
    each = each_set (λ j v. Knows session_of opening r.board s.homes j v v.phase) s.views id w knows (λ j v other there. r.each j v there);
    entries = r.entries;
    slot = slot_set r.board s.homes s.views id (r.board.taker r.board.served) v w at not r.each (λ _. refl) r.slot;
  }
