-- The lock begins, makes seats, gathers them and ends.
use Rattle.std.proofs.Common.{◌≡◌, ◌≢◌, ◌⊎◌, ℕ, zero, suc, ◌+◌, ◌<◌, ◌==◌, true, List, [], ◌∷◌, length, set, cond, sym, refl, ap, ◌∙◌, subst, inl, inr, ⊎_elim, arith, eq-eqb, ne_eqb, Option, Some}
use Rattle.std.specs.Prelude.{All, Any}
use mathlib.Core.Logic.{dite}
use mathlib.Core.List.{IsPrefix}
use mathlib.Core.Option.{some, some-injective, some-ne-none}
use native.Mathlib.Decide.{ℕ_discrete}
use lib.ListN.{get_elem?}
use Rattle.std.proofs.lemmas.List.Elements.{All-nil, All-cons, All-weaker}
use Rattle.atomic_table.specs.Table.{State, opening as table_opening, Final, Seen, Splits, Joins}
use Rattle.atomic_table.proofs.Lists.{set_else}
use Rattle.turn_lock.specs.declared.holder.Holder.{Holder}
use Rattle.turn_lock.specs.declared.holder.Phase.TheVariants.{Idle}
use Rattle.turn_lock.specs.Turns.{session_entries}
use Rattle.turn_lock.specs.Rule.{Board, tickets_out, IsInTurn, Hears, Sits, HasGathered, Knows, IsHome, IsOut, IsTurnLock}
use Rattle.turn_lock.specs.Steps.{is_idle, first_holder, spent_holder, maker_holder, made_holder, gathering_holder, HasAll, IsEndLog}
use Rattle.turn_lock.proofs.Sums.{sum_by_set, sum_by_push}
use Rattle.turn_lock.proofs.Holders.{Homes, each_set, each_push, same_there, mapped_new, mapped_old, entries_of_none, other_knows, idle_is, idle_knows, turn_knows, slot_set, slot_push}

module _ {T E : Type 0} (log_of : T → List E) (session_of : E → ℕ) (lawful : T → T → Type 0) (opening : T) where
  abbrev V : Type 0
  V = Holder T E

  abbrev Rule : State (Option T) V → Type 0
  Rule = IsTurnLock log_of session_of lawful opening

  new_board : Board E
  new_board = record { tickets = 0; served = 0; sessions = 1; log = []; taker = λ n. 0; sitter = λ n. 0 }

  first_knows : (j : ℕ) (v : V) → get_elem? (first_holder opening ∷ []) j ≡ some v → Knows session_of opening new_board (some (Some opening) ∷ []) j v v.phase
  unfolding new_board
  first_knows zero v there = subst (λ (v : V). Knows session_of opening new_board (some (Some opening) ∷ []) 0 v v.phase) (some-injective (first_holder opening) v there) (
    record { opening_is = refl; seen = ([], refl); aside = All-nil (λ xs. IsPrefix xs []) },
    record { part = omega arith; below = omega arith; sits = refl; mine = refl; counted = λ _. (refl, refl); gathered = All-nil (HasGathered session_of [] 1 (λ n. 0) 0 0) },
  )
  first_knows (suc j) v there = absurd (some-ne-none v (sym there))

  -- the table as it is made
  opens : log_of opening ≡ [] → lawful opening opening → Rule (table_opening (0 ∷ 0 ∷ []) (Some opening ∷ []) (first_holder opening))
  unfolding new_board
  opens empty may = record {
    board = new_board;
    words = refl;
    few = omega arith;
    long = refl;
    queue = refl;
    parts = omega arith;
    each = first_knows;
    entries = All-nil (λ e. session_of e < 1);
    slot = inl record { state = opening; slot = refl; log_is = empty; lawful_state = may };
  }

  -- a seat is made, of the next session
  pub seat : (id : ℕ) (v : V) → is_idle v ≡ true → v.sessions ≢ 0 → 1 < v.parts → Splits Rule id v (maker_holder v) (made_holder v)
  seat id v idle counts rich s r at =
      let b = r.board in
      let k = idle_knows session_of opening b s.homes id v v.phase idle (r.each id v at) in
      let phase : v.phase ≡ Idle = idle_is v.phase idle in
      let count : v.sessions ≡ b.sessions = (k.1.counted counts).0 in
      let mine0 : b.sitter 0 ≡ id = (k.1.counted counts).1 in
      let below = k.1.below in
      let w : V = maker_holder v in
      let u0 : V = made_holder v in
      let place : ℕ = length (set s.views id w) in
      let sitter : ℕ → ℕ = λ t. cond (t == b.sessions) place (b.sitter t) in
      let old : (t : ℕ) → t < b.sessions → sitter t ≡ b.sitter t = λ t lt. mapped_old b.sitter b.sessions place t (λ e. omega arith) in
      let b' : Board E = record b { sessions = b.sessions + 1; sitter = sitter } in
      let gathered' : (j session : ℕ) (gs : List (ℕ × List E)) → All (HasGathered session_of b.log b.sessions b.sitter j session) gs → All (HasGathered session_of b.log (b.sessions + 1) sitter j session) gs =
      λ j session gs. All-weaker (HasGathered session_of b.log b.sessions b.sitter j session) (HasGathered session_of b.log (b.sessions + 1) sitter j session)
      (λ g h. let lt = h.below in record { other = h.other; below = omega arith; sits = old g.0 lt ∙ h.sits; entries = h.entries }) gs in
      let out = sum_by_set (λ (v : V). tickets_out v.phase) s.views id v w at in
      let out' = sum_by_push (λ (v : V). tickets_out v.phase) (set s.views id w) u0 in
      let parts = sum_by_set (λ (v : V). v.parts) s.views id v w at in
      let parts' = sum_by_push (λ (v : V). v.parts) (set s.views id w) u0 in
      let maker_knows : Hears opening b.log w × Sits session_of b.log (b.sessions + 1) sitter id w = (
        record { opening_is = k.0.opening_is; seen = k.0.seen; aside = k.0.aside },
        record {
          part = omega arith;
          below = omega arith;
          sits = old v.session below ∙ k.1.sits;
          mine = k.1.mine;
          counted = λ _. (ap (λ (n : ℕ). n + 1) count, old 0 (omega arith) ∙ mine0);
          gathered = gathered' id v.session v.gathered k.1.gathered;
        },
      ) in
      let made_knows : Hears opening b.log u0 × Sits session_of b.log (b.sessions + 1) sitter place u0 = (
        record { opening_is = k.0.opening_is; seen = k.0.seen; aside = All-nil (λ xs. IsPrefix xs b.log) },
        record {
          part = omega arith;
          below = omega arith;
          sits = mapped_new b.sitter b.sessions place v.sessions count;
          mine = ap (λ (t : ℕ). session_entries session_of t b.log) count ∙ entries_of_none session_of b.sessions b.log r.entries;
          counted = λ is. absurd (is refl);
          gathered = All-nil (HasGathered session_of b.log (b.sessions + 1) sitter place v.sessions);
        },
      ) in
      record {
        board = b';
        words = r.words;
        few = r.few;
        long = r.long;
        queue = let queue = r.queue in omega arith;
        parts = let most = r.parts in omega arith;
        each = each_push (λ j v. Knows session_of opening b' s.homes j v v.phase) (set s.views id w) u0
            (each_set (λ j v. Knows session_of opening b' s.homes j v v.phase) s.views id w
            (subst (Knows session_of opening b' s.homes id w) (sym phase) maker_knows)
            (λ j u other there. other_knows session_of opening b b' s.homes s.homes j u (λ h. h)
            (λ h. let lt = h.below in record {
              part = h.part;
              below = omega arith;
              sits = old u.session lt ∙ h.sits;
              mine = h.mine;
              counted = λ is. absurd (other (sym (h.counted is).1 ∙ mine0));
              gathered = gathered' j u.session u.gathered h.gathered;
            })
            (λ n h. h) (λ n found h. h) u.phase (r.each j u there)))
            made_knows;
        entries = All-weaker (λ e. session_of e < b.sessions) (λ e. session_of e < b.sessions + 1) (λ e lt. omega arith) b.log r.entries;
        slot = slot_push log_of session_of lawful opening b.log s.homes (set s.views id w) (b.taker b.served) u0
            (slot_set log_of session_of lawful opening b s.homes s.views id (b.taker b.served) v w at k.3 r.each (λ _. refl) r.slot);
      }

  -- a seat gathers another, which is spent
  pub gather : (id other : ℕ) (v w : V) → is_idle v ≡ true → is_idle w ≡ true → Joins Rule id v other w (gathering_holder v w) spent_holder
  gather id other v w idle idle' s r at apart there =
      let b = r.board in
      let x : V = gathering_holder v w in
      let there' : get_elem? s.views other ≡ some w = sym (set_else s.views id other x apart) ∙ there in
      let k = idle_knows session_of opening b s.homes id v v.phase idle (r.each id v at) in
      let h = idle_knows session_of opening b s.homes other w w.phase idle' (r.each other w there') in
      let phase : v.phase ≡ Idle = idle_is v.phase idle in
      let sitter : ℕ → ℕ = λ t. cond (b.sitter t == other) id (b.sitter t) in
      let old : (t j : ℕ) → b.sitter t ≡ j → j ≢ other → sitter t ≡ j = λ t j e ne. ap (λ c. cond c id (b.sitter t)) (ne_eqb (b.sitter t) other (λ is. ne (sym e ∙ is))) ∙ e in
      let moved : (t : ℕ) → b.sitter t ≡ other → sitter t ≡ id = λ t e. ap (λ c. cond c id (b.sitter t)) (eq-eqb (b.sitter t) other e) in
      let apart' : id ≢ other = λ e. apart (sym e) in
      let b' : Board E = record b { sitter = sitter } in
      let gathered' : (j session : ℕ) → j ≢ other → (gs : List (ℕ × List E)) → All (HasGathered session_of b.log b.sessions b.sitter j session) gs → All (HasGathered session_of b.log b.sessions sitter j session) gs =
      λ j session ne gs. All-weaker (HasGathered session_of b.log b.sessions b.sitter j session) (HasGathered session_of b.log b.sessions sitter j session)
      (λ g h. record { other = h.other; below = h.below; sits = old g.0 j h.sits ne; entries = h.entries }) gs in
      let mid : List V = set s.views id x in
      let out = sum_by_set (λ (v : V). tickets_out v.phase) s.views id v x at in
      let parts = sum_by_set (λ (v : V). v.parts) s.views id v x at in
      let out' = sum_by_set (λ (v : V). tickets_out v.phase) mid other w spent_holder there in
      let parts' = sum_by_set (λ (v : V). v.parts) mid other w spent_holder there in
      let free : tickets_out w.phase ≡ 0 = h.2 in
      let counted : x.sessions ≢ 0 → (x.sessions ≡ b.sessions) × (sitter 0 ≡ id) = dite (ℕ_discrete v.sessions 0)
      (λ zeroth. let is : x.sessions ≡ w.sessions = ap (λ c. cond c w.sessions v.sessions) (eq-eqb v.sessions 0 zeroth) in
      (λ more. let c = h.1.counted (λ e. more (is ∙ e)) in (is ∙ c.0, moved 0 c.1)))
      (λ some_count. let is : x.sessions ≡ v.sessions = ap (λ c. cond c w.sessions v.sessions) (ne_eqb v.sessions 0 some_count) in
      (λ more. let c = k.1.counted some_count in (is ∙ c.0, old 0 id c.1 apart'))) in
      let knows : Hears opening b.log x × Sits session_of b.log b.sessions sitter id x = (
        record { opening_is = k.0.opening_is; seen = k.0.seen; aside = All-cons (λ xs. IsPrefix xs b.log) w.seen v.aside h.0.seen k.0.aside },
        record {
          part = k.1.part;
          below = k.1.below;
          sits = old v.session id k.1.sits apart';
          mine = k.1.mine;
          counted = counted;
          gathered = All-cons (HasGathered session_of b.log b.sessions sitter id v.session) (w.session, w.mine) v.gathered
              (record { other = λ e. apart' (sym k.1.sits ∙ (ap b.sitter (sym e) ∙ h.1.sits)); below = h.1.below; sits = moved w.session h.1.sits; entries = h.1.mine })
              (gathered' id v.session apart' v.gathered k.1.gathered);
        },
      ) in
      let first : (j : ℕ) (u : V) → get_elem? mid j ≡ some u → j ≢ other → Knows session_of opening b' s.homes j u u.phase =
      each_set (λ j u. j ≢ other → Knows session_of opening b' s.homes j u u.phase) s.views id x
      (λ _. subst (Knows session_of opening b' s.homes id x) (sym phase) knows)
      (λ j u not_me there_u not_other. other_knows session_of opening b b' s.homes s.homes j u (λ h. h)
      (λ h. record {
        part = h.part;
        below = h.below;
        sits = old u.session j h.sits not_other;
        mine = h.mine;
        counted = λ is. let c = h.counted is in (c.0, old 0 j c.1 not_other);
        gathered = gathered' j u.session not_other u.gathered h.gathered;
      })
      (λ n h. h) (λ n found h. h) u.phase (r.each j u there_u)) in
      let slot : IsHome log_of lawful opening b.log s.homes ⊎ IsOut s.homes mid (b.taker b.served) = slot_set log_of session_of lawful opening b s.homes s.views id (b.taker b.served) v x at k.3 r.each (λ _. refl) r.slot in
      record {
        board = b';
        words = r.words;
        few = r.few;
        long = r.long;
        queue = let queue = r.queue in omega arith;
        parts = let most = r.parts in omega arith;
        each = each_set (λ j v. Knows session_of opening b' s.homes j v v.phase) mid other spent_holder tt (λ j u not_other there_j. first j u there_j not_other);
        entries = r.entries;
        slot = ⊎_elim inl (λ (o : IsOut s.homes mid (b.taker b.served)).
            inr record {
              slot = o.slot;
              holder = o.holder;
              there = set_else mid other (b.taker b.served) spent_holder (λ e. h.3 (subst (λ (u : V). IsInTurn u.phase) (same_there mid (b.taker b.served) other o.holder w o.there there e) o.turn)) ∙ o.there;
              turn = o.turn;
            }) slot;
      }

  -- where one holder gathered all seats, nobody has the turn, and the state is at home
  closed : (s : State (Option T) V) (r : Rule s) (id : ℕ) (v : V) → get_elem? s.views id ≡ some v → is_idle v ≡ true → v.sessions ≢ 0 → HasAll v.sessions v → IsHome log_of lawful opening r.board.log s.homes
  closed s r id v at idle counts all = ⊎_elim (λ home. home) (λ (out : IsOut s.homes s.views (r.board.taker r.board.served)).
      let b = r.board in
      let k = idle_knows session_of opening b s.homes id v v.phase idle (r.each id v at) in
      let u : V = out.holder in
      let j : ℕ = b.taker b.served in
      let sits = (turn_knows session_of opening b s.homes j u u.phase out.turn (r.each j u out.there)).0 in
      let lt : u.session < v.sessions = subst (λ (n : ℕ). u.session < n) (sym (k.1.counted counts).0) sits.below in
      let same : j ≡ id = ⊎_elim
      (λ (own : v.session ≡ u.session). sym sits.sits ∙ (ap b.sitter (sym own) ∙ k.1.sits))
      (λ (any : Any (λ g. g.0 ≡ u.session) v.gathered).
      let g = k.1.gathered any.0 any.1 any.2 in
      sym sits.sits ∙ (ap b.sitter (sym any.4 ∙ ap (λ (p : ℕ × List E). p.0) (sym any.3)) ∙ g.sits)) (all u.session lt) in
      absurd (k.3 (subst (λ (x : V). IsInTurn x.phase) (same_there s.views j id u v out.there at same) out.turn))) r.slot

-- the table as it is made, of a state that its key remembers
pub opens_at : {T E : Type 0} (log_of : T → List E) (session_of : E → ℕ) (lawful : T → T → Type 0) (state key : T) (xs : List (Option T)) → key ≡ state → xs ≡ Some state ∷ [] → log_of state ≡ [] → lawful state state
    → IsTurnLock log_of session_of lawful key (table_opening (0 ∷ 0 ∷ []) xs (first_holder key))
opens_at {T} log_of session_of lawful state key xs e is empty may =
    subst (λ (z : T × List (Option T)). IsTurnLock log_of session_of lawful z.0 (table_opening (0 ∷ 0 ∷ []) z.1 (first_holder z.0))) (λ i. (sym e i, sym is i)) (opens log_of session_of lawful state empty may)

-- what the table has once it is closed with one holder that gathered all seats
pub record IsLast {T E : Type 0} (log_of : T → List E) (session_of : E → ℕ) (lawful : T → T → Type 0) (opening : T) (v : Holder T E) (last : Option T) : Type 0 where
  pub state : T
  pub there : last ≡ Some state
  pub log : IsEndLog session_of v (log_of state)
  pub sessions : All (λ e. session_of e < v.sessions) (log_of state)
  pub lawful_state : lawful opening state

pub ends : {T E : Type 0} (log_of : T → List E) (session_of : E → ℕ) (lawful : T → T → Type 0) (opening : T) (id : ℕ) (v : Holder T E) (ws : List ℕ) (xs : List (Option T)) (last : Option T)
    → Final (Seen (IsTurnLock log_of session_of lawful opening) id v) ws xs → is_idle v ≡ true → v.sessions ≢ 0 → HasAll v.sessions v → get_elem? xs 0 ≡ some last → IsLast log_of session_of lawful opening v last
ends {T} {E} log_of session_of lawful opening id v ws xs last f idle counts all at =
    let s = f.0 in
    let r : IsTurnLock log_of session_of lawful opening s = f.1.0 in
    let home = closed log_of session_of lawful opening s r id v f.1.1 idle counts all in
    let k = idle_knows session_of opening r.board s.homes id v v.phase idle (r.each id v f.1.1) in
    let there : get_elem? xs 0 ≡ some (Some home.state) = f.4 0 (Some home.state) (ap (λ (h : Homes session_of opening). get_elem? h 0) home.slot) in
    let log : List E → Type 0 = λ l. IsEndLog session_of v l × All (λ e. session_of e < v.sessions) l in
    let known : log r.board.log = (
      record {
        seen = k.0.seen;
        aside = k.0.aside;
        mine = k.1.mine;
        gathered = All-weaker (HasGathered session_of r.board.log r.board.sessions r.board.sitter id v.session) (λ g. session_entries session_of g.0 r.board.log ≡ g.1) (λ g h. h.entries) v.gathered k.1.gathered;
      },
      subst (λ (n : ℕ). All (λ e. session_of e < n) r.board.log) (sym (k.1.counted counts).0) r.entries,
    ) in
    let known' = subst log (sym home.log_is) known in
    record { state = home.state; there = some-injective last (Some home.state) (sym at ∙ there); log = known'.0; sessions = known'.1; lawful_state = home.lawful_state }
