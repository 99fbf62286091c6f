-- A turn keeps the rule: a ticket is taken, the turn begins, the turn is over.
use Rattle.std.proofs.Common.{◌≡◌, ◌≢◌, ◌⊎◌, ℕ, ◌+◌, ◌%◌, ◌^◌, ◌<◌, ◌==◌, true, List, [], ◌∷◌, ◌++◌, length, set, cond, sym, refl, ap, ◌∙◌, subst, inl, inr, arith, eq-eqb, ne_eqb, Option, Some, length-append, slice_index}
use Rattle.std.specs.Prelude.{All}
use mathlib.Core.Logic.{dite}
use mathlib.Core.List.{IsPrefix}
use mathlib.Core.Option.{some, none}
use native.Mathlib.Decide.{ℕ_discrete}
use lib.ListN.{get_elem?}
use lib.Seq.{set-get_or}
use Rattle.std.proofs.Math.Nat.{mod-eq_of_lt}
use Rattle.std.proofs.lemmas.List.Elements.{All-weaker, All-push}
use Rattle.atomic_table.specs.Table.{State, Me, Step, Act, keeps, takes, gives, Valid, carried_after, stepped, Allows}
use Rattle.atomic_table.proofs.Lists.{set_again}
use Rattle.turn_lock.specs.declared.holder.Holder.{Holder}
use Rattle.turn_lock.specs.declared.holder.Phase.TheVariants.{Idle, Waiting, InTurn}
use Rattle.turn_lock.specs.Turns.{session_entries}
use Rattle.turn_lock.specs.Rule.{Board, tickets_out, IsInTurn, Hears, HasGathered, Knows, IsHome, IsOut, IsTurnLock}
use Rattle.turn_lock.specs.Steps.{is_idle, Begins, LooksIn, Looks, finished_holder, Finishes}
use Rattle.turn_lock.proofs.Sums.{sum_by_set}
use Rattle.turn_lock.proofs.Fronts.{prefix_self, prefix_trans}
use Rattle.turn_lock.proofs.Holders.{Homes, each_set, set_there, same_there, some_is, mapped_new, mapped_old, entries_of_other, other_knows, idle_knows, few_tickets, slot_set}

module _ {T E : Type 0} (log_of : T → List E) (session_of : E → ℕ) (lawful : T → T → Type 0) (opening : T) where
  abbrev V : Type 0
  V = Holder T E

  abbrev Rule : State (Option T) V → Type 0
  Rule = IsTurnLock log_of session_of lawful opening

  -- a ticket is taken
  pub take : (slots id : ℕ) (me : Me (Option T) V) → is_idle me.0 ≡ true → Allows Rule slots id me 0 (λ n. (n + 1) % 2 ^ 64) (λ k m'. m' ≡ (record me.0 { phase = Waiting k }, me.1))
  take slots id me idle s r _ at small =
      let b = r.board in
      let t : ℕ = slice_index s.words 0 in
      let is : t ≡ b.tickets = ap (λ (ws : List ℕ). slice_index ws 0) r.words in
      let v : V = me.0 in
      let w : V = record v { phase = Waiting t } in
      let k = idle_knows session_of opening b s.homes id v v.phase idle (r.each id v at) in
      let free : tickets_out v.phase ≡ 0 = k.2 in
      let few = r.few in
      let low : b.tickets + 1 < 2 ^ 64 = let f = few_tickets log_of session_of lawful opening s r in omega arith in
      let taker : ℕ → ℕ = λ n. cond (n == b.tickets) id (b.taker n) in
      let old : (n : ℕ) → n < b.tickets → taker n ≡ b.taker n = λ n lt. mapped_old b.taker b.tickets id n (λ e. omega arith) in
      let out = sum_by_set (λ (v : V). tickets_out v.phase) s.views id v w at in
      let parts = sum_by_set (λ (v : V). v.parts) s.views id v w at in
      let b' : Board E = record b { tickets = b.tickets + 1; taker = taker } in (
        w,
        keeps,
        tt,
        record {
          board = b';
          words = ap (λ (ws : List ℕ). set ws 0 ((slice_index ws 0 + 1) % 2 ^ 64)) r.words ∙ ap (λ (n : ℕ). n ∷ b.served ∷ []) (mod-eq_of_lt low);
          few = few;
          long = r.long;
          queue = let queue = r.queue in omega arith;
          parts = let most = r.parts in omega arith;
          each = each_set (λ j v. Knows session_of opening b' s.homes j v v.phase) s.views id w (
            record { opening_is = k.0.opening_is; seen = k.0.seen; aside = k.0.aside },
            record { part = k.1.part; below = k.1.below; sits = k.1.sits; mine = k.1.mine; counted = k.1.counted; gathered = k.1.gathered },
            record { due = let queue = r.queue in omega arith; taken = omega arith; taker_is = mapped_new b.taker b.tickets id t is },
          )
              (λ j u other there. other_knows session_of opening b b' s.homes s.homes j u (λ h. h) (λ h. h)
              (λ n h. let due = h.due in let taken = h.taken in record { due = due; taken = omega arith; taker_is = old n taken ∙ h.taker_is })
              (λ n found h. let taken = h.taken in record { next = h.next; taken = omega arith; taker_is = old n taken ∙ h.taker_is; small = h.small; found_is = h.found_is; out = h.out })
              u.phase (r.each j u there));
          entries = r.entries;
          slot = slot_set log_of session_of lawful opening b s.homes s.views id (taker b.served) v w at k.3 r.each (old b.served) r.slot;
        },
        refl,
      )

  -- a look that finds its ticket takes the state out
  look_hit : (s : State (Option T) V) (r : Rule s) (id n : ℕ) (me : Me (Option T) V) → get_elem? s.views id ≡ some me.0 → me.1 ≡ [] → me.0.phase ≡ Waiting n → n < 2 ^ 62 → slice_index s.words 1 ≡ n
      → Knows session_of opening r.board s.homes id me.0 (Waiting n) → IsHome log_of lawful opening r.board.log s.homes ⊎ IsOut s.homes s.views (r.board.taker r.board.served)
      → (w : V) × (a : Act (Option T)) × Valid s.homes me.1 a × Rule (stepped s 1 (slice_index s.words 1) id me.1 w a) × Begins log_of session_of lawful n me.0 (w, carried_after me.1 a)
  look_hit s r id n me at bare waits small found k (inl home) =
      let b = r.board in
      let is : slice_index s.words 1 ≡ b.served = ap (λ (ws : List ℕ). slice_index ws 1) r.words in
      let here : n ≡ b.served = sym found ∙ is in
      let v : V = me.0 in
      let w : V = record v { phase = InTurn n (log_of home.state) } in
      let one : tickets_out v.phase ≡ 1 = ap tickets_out waits in
      let tickets = sum_by_set (λ (v : V). tickets_out v.phase) s.views id v w at in
      let parts = sum_by_set (λ (v : V). v.parts) s.views id v w at in
      let out : set s.homes 0 none ≡ none ∷ [] = ap (λ (h : Homes session_of opening). set h 0 none) home.slot in (
        w,
        takes 0 (Some home.state),
        ap (λ (h : Homes session_of opening). get_elem? h 0) home.slot,
        record {
          board = b;
          words = ap (λ (ws : List ℕ). set ws 1 (slice_index ws 1)) r.words;
          few = r.few;
          long = r.long;
          queue = let queue = r.queue in omega arith;
          parts = let most = r.parts in omega arith;
          each = each_set (λ j v. Knows session_of opening b (set s.homes 0 none) j v v.phase) s.views id w (
            record { opening_is = k.0.opening_is; seen = k.0.seen; aside = k.0.aside },
            record { part = k.1.part; below = k.1.below; sits = k.1.sits; mine = k.1.mine; counted = k.1.counted; gathered = k.1.gathered },
            record { next = here; taken = k.2.taken; taker_is = k.2.taker_is; small = small; found_is = home.log_is; out = out },
          )
              (λ j u other there. other_knows session_of opening b b s.homes (set s.homes 0 none) j u (λ h. h) (λ h. h) (λ n h. h) (λ n found h. absurd (cc (h.out, home.slot))) u.phase (r.each j u there));
          entries = r.entries;
          slot = inr record { slot = out; holder = w; there = ap (get_elem? (set s.views id w)) (ap b.taker (sym here) ∙ k.2.taker_is) ∙ set_there s.views id v w at; turn = tt };
        },
        record {
          state = home.state;
          slot = ap (λ (l : List (ℕ × Option T)). (0, Some home.state) ∷ l) bare;
          view = refl;
          seen = subst (λ (l : List E). IsPrefix v.seen l) (sym home.log_is) k.0.seen;
          long = ap length home.log_is ∙ (r.long ∙ sym here);
          mine = ap (session_entries session_of v.session) home.log_is ∙ k.1.mine;
          lawful_state = λ o is. subst (λ (o : T). lawful o home.state) (some_is opening o (sym k.0.opening_is ∙ is)) home.lawful_state;
        },
      )
  look_hit s r id n me at bare waits small found k (inr out) =
      let b = r.board in
      let is : slice_index s.words 1 ≡ b.served = ap (λ (ws : List ℕ). slice_index ws 1) r.words in
      let here : b.taker b.served ≡ id = ap b.taker (sym is ∙ found) ∙ k.2.taker_is in
      absurd (subst IsInTurn (ap (λ (v : V). v.phase) (same_there s.views (b.taker b.served) id out.holder me.0 out.there at here) ∙ waits) out.turn)

  -- a look at the turns that are over
  look : (slots id n : ℕ) (me : Me (Option T) V) → me.1 ≡ [] → me.0.phase ≡ Waiting n → n < 2 ^ 62
      → Allows Rule slots id me 1 (λ k. k) (λ k m'. LooksIn log_of session_of lawful (Waiting n) me k m')
  look slots id n me bare waits small s r _ at _ =
      let k = subst (Knows session_of opening r.board s.homes id me.0) waits (r.each id me.0 at) in
      dite (ℕ_discrete (slice_index s.words 1) n)
      (λ e. let hit = look_hit s r id n me at bare waits small e k r.slot in
      (hit.0, hit.1, hit.2, hit.3, rw (eq-eqb (slice_index s.words 1) n e) hit.4))
      (λ ne. (
        me.0,
        keeps,
        tt,
        subst Rule (λ i. record { words = sym (set-get_or s.words 1 0) i; homes = s.homes; views = sym (set_again s.views id me.0 at) i }) r,
        rw (ne_eqb (slice_index s.words 1) n ne) refl,
      ))

  pub look_from : (slots id n : ℕ) (v : V) (me : Me (Option T) V) (st : Step (Option T)) → me ≡ (record v { phase = Waiting n }, []) → n < 2 ^ 62
      → Allows Rule slots id me 1 (λ k. k) (Looks log_of session_of lawful st me)
  look_from slots id n v me st e small =
      let P : Me (Option T) V → Type 0 = λ me. Allows Rule slots id me 1 (λ k. k) (Looks log_of session_of lawful st me) in
      subst P (sym e) (look slots id n (record v { phase = Waiting n }, []) refl refl small)

  -- the state is brought home with one entry more, and the turn is over
  finish : (slots id n : ℕ) (v : V) (found : List E) (y : T) (e : E) → v.phase ≡ InTurn n found → log_of y ≡ found ++ e ∷ [] → session_of e ≡ v.session → ((o : T) → v.opening ≡ Some o → lawful o y)
      → Allows Rule slots id (v, (0, Some y) ∷ []) 1 (λ k. (k + 1) % 2 ^ 64) (λ k m'. m' ≡ (finished_holder log_of session_of v ((0, Some y) ∷ []), []))
  finish slots id n v found y e turn logs own may s r _ at _ =
      let b = r.board in
      let k = subst (Knows session_of opening b s.homes id v) turn (r.each id v at) in
      let here : n ≡ b.served = k.2.next in
      let low : n < 2 ^ 62 = k.2.small in
      let hi : n < b.tickets = k.2.taken in
      let log : log_of y ≡ b.log ++ e ∷ [] = logs ∙ ap (λ l. l ++ e ∷ []) k.2.found_is in
      let w : V = record v { phase = Idle; seen = log_of y; mine = session_entries session_of v.session (log_of y) } in
      let one : tickets_out v.phase ≡ 1 = ap tickets_out turn in
      let out = sum_by_set (λ (v : V). tickets_out v.phase) s.views id v w at in
      let parts = sum_by_set (λ (v : V). v.parts) s.views id v w at in
      let home : set s.homes 0 (some (Some y)) ≡ some (Some y) ∷ [] = ap (λ (h : Homes session_of opening). set h 0 (some (Some y))) k.2.out in
      let next : (b.served + 1) % 2 ^ 64 ≡ b.served + 1 = mod-eq_of_lt (omega arith) in
      let mine : b.taker b.served ≡ id = ap b.taker (sym here) ∙ k.2.taker_is in
      let longer : IsPrefix b.log (log_of y) = (e ∷ [], sym log) in
      let hears : (u : V) → Hears opening b.log u → Hears opening (log_of y) u = λ u h. record {
        opening_is = h.opening_is;
        seen = prefix_trans u.seen b.log (log_of y) h.seen longer;
        aside = All-weaker (λ xs. IsPrefix xs b.log) (λ xs. IsPrefix xs (log_of y)) (λ xs p. prefix_trans xs b.log (log_of y) p longer) u.aside h.aside;
      } in
      let others : (t : ℕ) → session_of e ≢ t → session_entries session_of t (log_of y) ≡ session_entries session_of t b.log =
      λ t ne. ap (session_entries session_of t) log ∙ entries_of_other session_of t b.log e ne in
      let apart : (t j : ℕ) → b.sitter t ≡ j → j ≢ id → session_of e ≢ t = λ t j sits ne same. ne (sym sits ∙ (ap b.sitter (sym same ∙ own) ∙ k.1.sits)) in
      let b' : Board E = record b { served = b.served + 1; log = log_of y } in (
        w,
        gives,
        tt,
        record {
          board = b';
          words = ap (λ (ws : List ℕ). set ws 1 ((slice_index ws 1 + 1) % 2 ^ 64)) r.words ∙ ap (λ (n : ℕ). b.tickets ∷ n ∷ []) next;
          few = omega arith;
          long = ap length log ∙ (length-append b.log (e ∷ []) ∙ (let long = r.long in omega arith));
          queue = let queue = r.queue in omega arith;
          parts = let most = r.parts in omega arith;
          each = each_set (λ j v. Knows session_of opening b' (set s.homes 0 (some (Some y))) j v v.phase) s.views id w (
            record { opening_is = k.0.opening_is; seen = prefix_self (log_of y); aside = (hears v k.0).aside },
            record {
              part = k.1.part;
              below = k.1.below;
              sits = k.1.sits;
              mine = refl;
              counted = k.1.counted;
              gathered = All-weaker (HasGathered session_of b.log b.sessions b.sitter id v.session) (HasGathered session_of (log_of y) b.sessions b.sitter id v.session)
                  (λ g h. record { other = h.other; below = h.below; sits = h.sits; entries = others g.0 (λ same. h.other (sym same ∙ own)) ∙ h.entries }) v.gathered k.1.gathered;
            },
          )
              (λ j u other there. other_knows session_of opening b b' s.homes (set s.homes 0 (some (Some y))) j u (hears u)
              (λ h. record {
                part = h.part;
                below = h.below;
                sits = h.sits;
                mine = others u.session (apart u.session j h.sits other) ∙ h.mine;
                counted = h.counted;
                gathered = All-weaker (HasGathered session_of b.log b.sessions b.sitter j u.session) (HasGathered session_of (log_of y) b.sessions b.sitter j u.session)
                    (λ g h. record { other = h.other; below = h.below; sits = h.sits; entries = others g.0 (apart g.0 j h.sits other) ∙ h.entries }) u.gathered h.gathered;
              })
              (λ m h. let due = h.due in let taken = h.taken in let later : m ≢ b.served = λ is. other (sym h.taker_is ∙ (ap b.taker is ∙ mine)) in record { due = omega arith; taken = taken; taker_is = h.taker_is })
              (λ m found h. absurd (other (sym h.taker_is ∙ (ap b.taker h.next ∙ mine)))) u.phase (r.each j u there));
          entries = subst (λ (l : List E). All (λ e. session_of e < b.sessions) l) (sym log) (All-push (λ e. session_of e < b.sessions) b.log e r.entries (let below = k.1.below in omega arith));
          slot = inl record { state = y; slot = home; log_is = refl; lawful_state = may opening k.0.opening_is };
        },
        refl,
      )

  pub finish_from : (slots id n : ℕ) (v : V) (state y : T) (e : E) (m : Me (Option T) V) (st : Step (Option T)) → m ≡ (record v { phase = InTurn n (log_of state) }, (0, Some y) ∷ [])
      → log_of y ≡ log_of state ++ e ∷ [] → session_of e ≡ v.session → ((o : T) → v.opening ≡ Some o → lawful o y)
      → Allows Rule slots id m 1 (λ k. (k + 1) % 2 ^ 64) (Finishes log_of session_of st m)
  finish_from slots id n v state y e m st is logs own may =
      let P : Me (Option T) V → Type 0 = λ m. Allows Rule slots id m 1 (λ k. (k + 1) % 2 ^ 64) (Finishes log_of session_of st m) in
      subst P (sym is) (finish slots id n (record v { phase = InTurn n (log_of state) }) (log_of state) y e refl logs own may)
