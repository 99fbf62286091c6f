-- Notes keep the rule: one is made, one is learned, and all that was set aside is known to begin one log.
use Rattle.std.proofs.Common.{◌≡◌, ℕ, Bool, true, false, List, [], ◌∷◌, ◌++◌, length, set, sym, refl, ◌∙◌, subst, ⊎_elim, arith, Option}
use Rattle.std.specs.Prelude.{nat_lt, if◌then◌else◌}
use mathlib.Core.List.{IsPrefix}
use mathlib.Core.Option.{some}
use lib.ListN.{get_elem?}
use lib.Seq.{set-get_or}
use Rattle.std.proofs.lemmas.List.Elements.{All-nil, All-cons}
use Rattle.atomic_table.specs.Table.{State, Me, Step, keeps, Allows, Splits, Joins}
use Rattle.atomic_table.proofs.Lists.{set_again, set_else, at_snoc}
use Rattle.turn_lock.specs.declared.holder.Holder.{Holder}
use Rattle.turn_lock.specs.declared.holder.Phase.TheVariants.{Idle}
use Rattle.turn_lock.specs.Rule.{tickets_out, Hears, Sits, Knows, IsTurnLock}
use Rattle.turn_lock.specs.Steps.{is_idle, is_told, note_holder, learned_holder, spent_holder, Tells}
use Rattle.turn_lock.proofs.Sums.{sum_by_set, sum_by_push}
use Rattle.turn_lock.proofs.Holders.{idle_is, idle_knows, told_knows, slot_push, replaced}

longer_begins : {E : Type 0} (xs ys log : List E) (b : Bool) → IsPrefix xs log → IsPrefix ys log → IsPrefix (if b then ys else xs) log
longer_begins xs ys log true p q = q
longer_begins xs ys log false p q = p

module _ {T E : Type 0} (log_of : T → List E) (session_of : E → ℕ) (lawful : T → T → Type 0) (opening : T) where
  abbrev V : Type 0
  V = Holder T E

  abbrev Rule : State (Option T) V → Type 0
  Rule = IsTurnLock log_of session_of lawful opening

  -- a note is made
  pub note : (id : ℕ) (v : V) → is_idle v ≡ true → Splits Rule id v v (note_holder v)
  note id v idle s r at =
      let k = idle_knows session_of opening r.board s.homes id v v.phase idle (r.each id v at) in
      let out = sum_by_push (λ (v : V). tickets_out v.phase) s.views (note_holder v) in
      let parts = sum_by_push (λ (v : V). v.parts) s.views (note_holder v) in
      let made : Rule record { words = s.words; homes = s.homes; views = s.views ++ note_holder v ∷ [] } = record {
        board = r.board;
        words = r.words;
        few = r.few;
        long = r.long;
        queue = let queue = r.queue in omega arith;
        parts = let most = r.parts in omega arith;
        each = λ j u there. ⊎_elim (r.each j u)
            (λ (is : note_holder v ≡ u). subst (λ (u : V). Knows session_of opening r.board s.homes j u u.phase) is
            (record { opening_is = k.0.opening_is; seen = k.0.seen; aside = All-nil (λ xs. IsPrefix xs r.board.log) }))
            (at_snoc s.views (note_holder v) u j there);
        entries = r.entries;
        slot = slot_push log_of session_of lawful opening r.board.log s.homes s.views (r.board.taker r.board.served) (note_holder v) r.slot;
      } in
      subst (λ (vs : List V). Rule record { words = s.words; homes = s.homes; views = vs ++ note_holder v ∷ [] }) (sym (set_again s.views id v at)) made

  -- a seat learns a note, which is spent
  pub learn : (id other : ℕ) (v note : V) → is_idle v ≡ true → is_told note ≡ true → Joins Rule id v other note (learned_holder v note) spent_holder
  learn id other v note idle told s r at apart there =
      let w : V = learned_holder v note in
      let there' : get_elem? s.views other ≡ some note = sym (set_else s.views id other w apart) ∙ there in
      let k = idle_knows session_of opening r.board s.homes id v v.phase idle (r.each id v at) in
      let h = told_knows session_of opening r.board s.homes other note note.phase told (r.each other note there') in
      let begins : List E → Type 0 = λ xs. IsPrefix xs r.board.log in
      let knows : Hears opening r.board.log w × Sits session_of r.board.log r.board.sessions r.board.sitter id w = (
        record {
          opening_is = k.0.opening_is;
          seen = longer_begins v.seen note.seen r.board.log (nat_lt (length v.seen) (length note.seen)) k.0.seen h.0.seen;
          aside = All-cons begins v.seen (note.seen ∷ v.aside) k.0.seen (All-cons begins note.seen v.aside h.0.seen k.0.aside);
        },
        record { part = k.1.part; below = k.1.below; sits = k.1.sits; mine = k.1.mine; counted = k.1.counted; gathered = k.1.gathered },
      ) in
      let phase : v.phase ≡ Idle = idle_is v.phase idle in
      let out = sum_by_set (λ (v : V). tickets_out v.phase) s.views id v w at in
      let parts = sum_by_set (λ (v : V). v.parts) s.views id v w at in
      let first : Rule record { words = s.words; homes = s.homes; views = set s.views id w } = replaced log_of session_of lawful opening s r id v w at (omega arith) (omega arith) k.3
      (subst (Knows session_of opening r.board s.homes id w) (sym phase) knows) in
      let free : tickets_out note.phase ≡ 0 = h.1 in
      let out' = sum_by_set (λ (v : V). tickets_out v.phase) (set s.views id w) other note spent_holder there in
      let parts' = sum_by_set (λ (v : V). v.parts) (set s.views id w) other note spent_holder there in
      replaced log_of session_of lawful opening record { words = s.words; homes = s.homes; views = set s.views id w } first other note spent_holder there (omega arith) (omega arith) h.2 tt

  -- a look that tells that all that was set aside begins the log
  pub tell : (slots id : ℕ) (me : Me (Option T) V) (st : Step (Option T)) → is_idle me.0 ≡ true → Allows Rule slots id me 0 (λ n. n) (Tells st me)
  tell slots id me st idle s r _ at _ =
      let v : V = me.0 in
      let k = idle_knows session_of opening r.board s.homes id v v.phase idle (r.each id v at) in
      let w : V = record v { aside = [] } in
      let knows : Hears opening r.board.log w × Sits session_of r.board.log r.board.sessions r.board.sitter id w = (
        record { opening_is = k.0.opening_is; seen = k.0.seen; aside = All-nil (λ xs. IsPrefix xs r.board.log) },
        record { part = k.1.part; below = k.1.below; sits = k.1.sits; mine = k.1.mine; counted = k.1.counted; gathered = k.1.gathered },
      ) in
      let phase : v.phase ≡ Idle = idle_is v.phase idle in
      let out = sum_by_set (λ (v : V). tickets_out v.phase) s.views id v w at in
      let parts = sum_by_set (λ (v : V). v.parts) s.views id v w at in
      let next : Rule record { words = s.words; homes = s.homes; views = set s.views id w } = replaced log_of session_of lawful opening s r id v w at (omega arith) (omega arith) k.3
      (subst (Knows session_of opening r.board s.homes id w) (sym phase) knows) in (
        w,
        keeps,
        tt,
        subst (λ (ws : List ℕ). Rule record { words = ws; homes = s.homes; views = set s.views id w }) (sym (set-get_or s.words 0 0)) next,
        record { after = refl; log = r.board.log; seen = k.0.seen; aside = k.0.aside },
      )
