-- Directories that are filled, from the definition and entry by entry.
use Rattle.std.proofs.Common.{◌≡◌, ℕ, Bool, true, false, cond, inl, inr, List, [], ◌∷◌, ◌++◌, Option, Some, None, IsTrue, refl, sym, ap, ◌∙◌, append_assoc}
use Rattle.std.specs.Prelude.{◌||◌, is_some, not}
use Rattle.std.specs.List.{list_any}
use Rattle.std.proofs.lemmas.Bool.{cases_Bool}
use Rattle.std.proofs.lemmas.List.{append-nil}
use Rattle.lower_model.specs.Name.{is_name}
use Rattle.names_model.specs.declared.entry.Linked.{Linked}
use Rattle.names_model.specs.Store.{Entries}
use Rattle.names_model.specs.NameForm.{NameForm, is_upper}
use Rattle.names_model.specs.ShownBy.{is_first, with_entry, directory_behind, directory_of}
use Rattle.tree_model.specs.declared.place.ForeignEntry.{ForeignEntry}
use Rattle.tree_model.specs.declared.place.Directory.{Directory}
use Rattle.tree_model.specs.Names.{is_named, node_of, put_entry, RisesBehind}
use Rattle.tree_model.proofs.NameLemmas.{is_named_is, is_named_both, entry_at-put_entry, comes_behind_nothing, RisesBehind-put_entry}
use Rattle.namespace_model.specs.Carried.{IsForm}
use Rattle.opening_model.specs.Filled.{first, number_of, foreign_entry, is_shown, foreign_if, foreign_behind, IsFilled}
use Rattle.opening_model.proofs.Rising.{rising_same}

-- whether one of these entries stands for a name
abbrev seen : NameForm → Entries → List ℕ → Bool
seen form before name = list_any (λ (e : List ℕ × Linked). is_upper name (form.upper e.0)) before

any-snoc : {A : Type 0} (test : A → Bool) (xs : List A) (x : A) → list_any test (xs ++ x ∷ []) ≡ (list_any test xs || test x)
any-snoc test [] x = elim (cases_Bool (test x)) [ inl t ↦ rw t refl | inr f ↦ rw f refl ]
any-snoc test (y ∷ xs) x = elim (cases_Bool (test y)) [ inl t ↦ rw t refl | inr f ↦ rw f (any-snoc test xs x) ]

is_upper_is : (name : List ℕ) (u : Option (List ℕ)) → is_upper name u ≡ true → u ≡ Some name
is_upper_is name (Some x) h = ap (λ (y : List ℕ). Some y) (sym (is_named_is name x h))
is_upper_is name None h = absurd cc

-- ---- the definition

abbrev after : Bool → Option ℕ → Option ℕ
after s o = cond s None o

-- one entry more before them
step : (form : NameForm) (before : Entries) (e : List ℕ × Linked) (x : List ℕ) (u : Option (List ℕ)) (d : Directory) (rest : Option (List ℕ × Linked)) → node_of x d.shown ≡ cond (seen form before x || is_upper x u) None (number_of rest)
    → node_of x (with_entry form before e.0 e.1.node u d).shown ≡ cond (seen form before x) None (number_of (cond (is_upper x u) (Some e) rest))
step form before e x None d rest h = elim (cases_Bool (seen form before x)) [
  | inl t ↦ rw t (let a : node_of x d.shown ≡ None = rw t at h in a)
  | inr f ↦ rw f (let a : node_of x d.shown ≡ number_of rest = rw f at h in a)
]
step form before e x (Some name) d rest h = elim (cases_Bool (seen form before name)) [
  | inl s ↦ rw s (elim (cases_Bool (is_named x name)) [
    | inl t ↦ (let same : x ≡ name = is_named_is x name t in
        let sx : seen form before x ≡ true = ap (seen form before) same ∙ s in
        rw sx (let a : node_of x d.shown ≡ None = rw sx at h in a))
    | inr f ↦ rw f (elim (cases_Bool (seen form before x)) [
      | inl t ↦ rw t (let a : node_of x d.shown ≡ None = rw t at h in a)
      | inr g ↦ rw g (let a : node_of x d.shown ≡ number_of rest = rw (g, f) at h in a)
    ])
  ])
  | inr s ↦ rw s (entry_at-put_entry x d.shown name e.1.node ∙ rw (is_named_both name x) (elim (cases_Bool (is_named x name)) [
    | inl t ↦ (let same : x ≡ name = is_named_is x name t in
        let sx : seen form before x ≡ false = ap (seen form before) same ∙ s in
        rw (t, sx) refl)
    | inr f ↦ rw f (elim (cases_Bool (seen form before x)) [
      | inl t ↦ rw t (let a : node_of x d.shown ≡ None = rw t at h in a)
      | inr g ↦ rw g (let a : node_of x d.shown ≡ number_of rest = rw (g, f) at h in a)
    ])
  ]))
]

shown_behind : (form : NameForm) (before es : Entries) (x : List ℕ) → node_of x (directory_behind form before es).shown ≡ cond (seen form before x) None (number_of (first form x es))
shown_behind form before [] x = elim (cases_Bool (seen form before x)) [ inl t ↦ rw t refl | inr f ↦ rw f refl ]
shown_behind form before (e ∷ es) x =
    step form before e x (form.upper e.0) (directory_behind form (before ++ e ∷ []) es) (first form x es)
    (shown_behind form (before ++ e ∷ []) es x ∙ ap (λ (s : Bool). cond s None (number_of (first form x es))) (any-snoc (λ (f : List ℕ × Linked). is_upper x (form.upper f.0)) before e))

foreign_step : (form : NameForm) (before : Entries) (e : List ℕ × Linked) (u : Option (List ℕ)) (d : Directory) → form.upper e.0 ≡ u → (with_entry form before e.0 e.1.node u d).foreign ≡ cond (is_shown form before u) [] (foreign_entry form e ∷ []) ++ d.foreign
foreign_step form before e None d h = refl
foreign_step form before e (Some name) d h = elim (cases_Bool (is_first form before name)) [ inl t ↦ rw t refl | inr f ↦ rw f refl ]

foreign_from : (form : NameForm) (before es : Entries) → (directory_behind form before es).foreign ≡ foreign_behind form before es
foreign_from form before [] = refl
foreign_from form before (e ∷ es) = foreign_step form before e (form.upper e.0) (directory_behind form (before ++ e ∷ []) es) refl ∙ ap (λ (fs : List ForeignEntry). foreign_if form before e ++ fs) (foreign_from form (before ++ e ∷ []) es)

rises_step : (form : NameForm) (before : Entries) (e : List ℕ × Linked) (u : Option (List ℕ)) (d : Directory) → ((name : List ℕ) → u ≡ Some name → IsTrue (is_name name)) → RisesBehind [] d.shown → RisesBehind [] (with_entry form before e.0 e.1.node u d).shown
rises_step form before e None d is h = h
rises_step form before e (Some name) d is h = elim (cases_Bool (is_first form before name)) [
  | inl t ↦ rw t (RisesBehind-put_entry [] d.shown name e.1.node (comes_behind_nothing name (is name refl)) (is name refl) h)
  | inr f ↦ rw f h
]

rises_from : (form : NameForm) → IsForm form → (last : List ℕ) (before es : Entries) → RisesBehind last es → RisesBehind [] (directory_behind form before es).shown
rises_from form laws last before [] h = tt
rises_from form laws last before (e ∷ es) h =
    rises_step form before e (form.upper e.0) (directory_behind form (before ++ e ∷ []) es) (λ name is. laws.reads_names e.0 name h.1 is) (rises_from form laws e.0 (before ++ e ∷ []) es h.2)

-- what the definition gives is filled
pub filled_directory : (form : NameForm) → IsForm form → (es : Entries) → RisesBehind [] es → IsFilled form es (directory_of form es)
filled_directory form laws es h = record { shown = shown_behind form [] es; foreign = foreign_from form [] es; rises = rises_from form laws [] [] es h }

-- and nothing else is
pub one_directory : (form : NameForm) (es : Entries) (d e : Directory) → IsFilled form es d → IsFilled form es e → d ≡ e
one_directory form es d e p q =
    let shown : d.shown ≡ e.shown = rising_same [] d.shown e.shown p.rises q.rises (λ name. p.shown name ∙ sym (q.shown name)) in
    let foreign : d.foreign ≡ e.foreign = p.foreign ∙ sym q.foreign in
    λ i. record { shown = shown i; foreign = foreign i }

-- ---- entry by entry

pub filled_empty : (form : NameForm) → IsFilled form [] (record { shown = []; foreign = [] })
filled_empty form = record { shown = λ name. refl; foreign = refl; rises = tt }

abbrev or_then : Option (List ℕ × Linked) → Option (List ℕ × Linked) → Option (List ℕ × Linked)
or_then (Some e) o = Some e
or_then None o = o

first-snoc : (form : NameForm) (x : List ℕ) (es : Entries) (e : List ℕ × Linked) → first form x (es ++ e ∷ []) ≡ or_then (first form x es) (cond (is_upper x (form.upper e.0)) (Some e) None)
first-snoc form x [] e = refl
first-snoc form x (y ∷ es) e = elim (cases_Bool (is_upper x (form.upper y.0))) [ inl t ↦ rw t refl | inr f ↦ rw f (first-snoc form x es e) ]

seen-first : (form : NameForm) (x : List ℕ) (es : Entries) → seen form es x ≡ is_some (first form x es)
seen-first form x [] = refl
seen-first form x (y ∷ es) = elim (cases_Bool (is_upper x (form.upper y.0))) [ inl t ↦ rw t refl | inr f ↦ rw f (seen-first form x es) ]

foreign-snoc : (form : NameForm) (before es : Entries) (e : List ℕ × Linked) → foreign_behind form before (es ++ e ∷ []) ≡ foreign_behind form before es ++ foreign_if form (before ++ es) e
foreign-snoc form before [] e = append-nil (foreign_if form before e) ∙ ap (λ (b : Entries). foreign_if form b e) (sym (append-nil before))
foreign-snoc form before (y ∷ es) e =
    let rest = foreign-snoc form (before ++ y ∷ []) es e in
    let there : foreign_behind form (before ++ y ∷ []) (es ++ e ∷ []) ≡ foreign_behind form (before ++ y ∷ []) es ++ foreign_if form (before ++ y ∷ es) e = rest ∙ ap (λ (b : Entries). foreign_behind form (before ++ y ∷ []) es ++ foreign_if form b e) (append_assoc before (y ∷ []) es) in
    ap (λ (fs : List ForeignEntry). foreign_if form before y ++ fs) there ∙ sym (append_assoc (foreign_if form before y) (foreign_behind form (before ++ y ∷ []) es) (foreign_if form (before ++ y ∷ es) e))

some_number : (o : Option (List ℕ × Linked)) → is_some (number_of o) ≡ is_some o
some_number (Some e) = refl
some_number None = refl

-- whether a directory shows a name already
pub shows_seen : (form : NameForm) (es : Entries) (d : Directory) (name : List ℕ) → IsFilled form es d → is_some (node_of name d.shown) ≡ not (is_first form es name)
shows_seen form es d name h = ap is_some (h.shown name) ∙ some_number (first form name es) ∙ sym (seen-first form name es) ∙ twice (seen form es name)
  where
    twice : (b : Bool) → b ≡ not (not b)
    twice true = refl
    twice false = refl

-- an entry that is shown
pub filled_shown : (form : NameForm) (es : Entries) (e : List ℕ × Linked) (d : Directory) (name : List ℕ) → IsTrue (is_name name) → IsFilled form es d → form.upper e.0 ≡ Some name → is_first form es name ≡ true → IsFilled form (es ++ e ∷ []) (record d { shown = put_entry d.shown name e.1.node })
filled_shown form es e d name is h up is_first_one = record {
  shown = λ x. entry_at-put_entry x d.shown name e.1.node ∙ rw (is_named_both name x) (shown_at x) ∙ ap number_of (sym (first-snoc form x es e));
  foreign = h.foreign ∙ sym (append-nil (foreign_behind form [] es)) ∙ ap (λ (fs : List ForeignEntry). foreign_behind form [] es ++ fs) (sym none) ∙ sym (foreign-snoc form [] es e);
  rises = RisesBehind-put_entry [] d.shown name e.1.node (comes_behind_nothing name is) is h.rises;
}
  where
    none : foreign_if form es e ≡ []
    none = rw up (rw is_first_one refl)

    not_seen : (o : Option (List ℕ × Linked)) → first form name es ≡ o → o ≡ None
    not_seen None at = refl
    not_seen (Some f) at = absurd (let a : seen form es name ≡ true = seen-first form name es ∙ ap is_some at in let no : false ≡ true = sym (ap not a) ∙ is_first_one in cc)

    shown_at : (x : List ℕ) → cond (is_named x name) (Some e.1.node) (node_of x d.shown) ≡ number_of (or_then (first form x es) (cond (is_upper x (form.upper e.0)) (Some e) None))
    shown_at x = rw up (elim (cases_Bool (is_named x name)) [
      | inl t ↦ (let same : first form x es ≡ None = ap (λ (n : List ℕ). first form n es) (is_named_is x name t) ∙ not_seen (first form name es) refl in rw (t, same) refl)
      | inr f ↦ rw f (h.shown x ∙ ap number_of (kept (first form x es)))
    ])
      where
        kept : (o : Option (List ℕ × Linked)) → o ≡ or_then o None
        kept (Some y) = refl
        kept None = refl

-- an entry that is foreign
pub filled_foreign : (form : NameForm) (es : Entries) (e : List ℕ × Linked) (d : Directory) → IsFilled form es d → is_shown form es (form.upper e.0) ≡ false → IsFilled form (es ++ e ∷ []) (record d { foreign = d.foreign ++ foreign_entry form e ∷ [] })
filled_foreign form es e d h hidden = record {
  shown = λ x. h.shown x ∙ ap number_of (same x (form.upper e.0) refl ∙ sym (first-snoc form x es e));
  foreign = ap (λ (fs : List ForeignEntry). fs ++ foreign_entry form e ∷ []) h.foreign ∙ ap (λ (fs : List ForeignEntry). foreign_behind form [] es ++ fs) (sym one) ∙ sym (foreign-snoc form [] es e);
  rises = h.rises;
}
  where
    one : foreign_if form es e ≡ foreign_entry form e ∷ []
    one = rw hidden refl

    known : (o : Option (List ℕ × Linked)) (p : Option (List ℕ × Linked)) → is_some o ≡ true → o ≡ or_then o p
    known (Some y) p t = refl
    known None p t = absurd cc

    none : (o : Option (List ℕ × Linked)) → o ≡ or_then o None
    none (Some y) = refl
    none None = refl

    was_seen : (s : Bool) → not s ≡ false → s ≡ true
    was_seen true t = refl
    was_seen false t = absurd cc

    same : (x : List ℕ) (u : Option (List ℕ)) → form.upper e.0 ≡ u → first form x es ≡ or_then (first form x es) (cond (is_upper x u) (Some e) None)
    same x None up = none (first form x es)
    same x (Some name) up = elim (cases_Bool (is_named x name)) [
      | inl t ↦ (let s : seen form es name ≡ true = was_seen (seen form es name) (sym (ap (is_shown form es) up) ∙ hidden) in
          let there : is_some (first form x es) ≡ true = ap (λ (n : List ℕ). is_some (first form n es)) (is_named_is x name t) ∙ sym (seen-first form name es) ∙ s in
          known (first form x es) _ there)
      | inr f ↦ rw f (none (first form x es))
    ]
