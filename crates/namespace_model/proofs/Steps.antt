-- The changes keep what is carried.
use Rattle.std.proofs.Common.{◌≡◌, ◌≢◌, ℕ, ◌<◌, Bool, true, false, cond, ◌⊎◌, inl, inr, List, Some, None, refl, sym, ap, subst, ◌∙◌, arith}
use Rattle.std.specs.Prelude.{◌==◌}
use Rattle.std.proofs.lemmas.Bool.{ne_eqb, eq-eqb}
use Rattle.std.proofs.lemmas.Bool.Decides.{eqb_tells}
use Rattle.names_model.specs.declared.entry.Linked.{Linked}
use Rattle.names_model.specs.NameForm.{NameForm}
use Rattle.names_model.specs.CarriedBy.{Among}
use Rattle.namespace_model.specs.Carried.{View, IsCarried, kind_by, unlinked, linked, ended, begun}
use Rattle.namespace_model.proofs.AtName.{put_other, put_same, cases_put, cases_out}

-- an entry is gone
pub IsCarried-unlinked : (form : NameForm) (v : View) (at : ℕ) (name lower : List ℕ) (n : ℕ) → IsCarried form v → v.shown at name ≡ Some n → lower ≡ v.keeps n → IsCarried form (unlinked v at name lower)
IsCarried-unlinked form v at name lower n c is own =
    let old : (k : ℕ) (x : List ℕ) (m : ℕ) → (unlinked v at name lower).shown k x ≡ Some m → (k ≡ at → x ≡ name → ⊥) × (v.shown k x ≡ Some m) = λ k x m h. cases_out at name k x (v.shown k x) m h in
    let low : (k : ℕ) (y : List ℕ) (l : Linked) → (unlinked v at name lower).low k y ≡ Some l → (k ≡ at → y ≡ lower → ⊥) × (v.low k y ≡ Some l) = λ k y l h. cases_out at lower k y (v.low k y) l h in
    record {
      dirs = c.dirs;
      held = λ k x m h. c.held k x m (old k x m h).1;
      down = λ k x m h. let o = old k x m h in
          put_other at lower k (v.keeps m) None (v.low k (v.keeps m)) _
          (λ e f. o.0 e (let a : form.upper (v.keeps m) ≡ Some x = c.reads k x m o.1 in let b : form.upper (v.keeps n) ≡ Some name = c.reads at name n is in let same : v.keeps m ≡ v.keeps n = f ∙ own in cc))
          (c.down k x m o.1);
      reads = λ k x m h. c.reads k x m (old k x m h).1;
      up = λ k y l d h. let o = low k y l h in
          elim (c.up k y l d o.1) [
            | inl s ↦ inl (
              s.0,
              put_other at name k s.0 None (v.shown k s.0) _ (λ e f. o.0 e
                  (let a : v.shown at name ≡ Some l.node = subst (λ (j : ℕ). v.shown j name ≡ Some l.node) e (subst (λ (z : List ℕ). v.shown k z ≡ Some l.node) f s.1) in
                  let b : n ≡ l.node = cc in
                  sym s.2 ∙ ap v.keeps (sym b) ∙ sym own)) s.1,
              s.2,
            )
            | inr f ↦ inr f
          ];
      foreign = λ k f among. let o = c.foreign k f among in
          (o.0, put_other at lower k f.lower None (v.low k f.lower) _ (λ e g. c.apart at name n f is (subst (λ (j : ℕ). Among f (v.foreign j)) e among) (g ∙ own)) o.1, o.2);
      apart = λ k x m f h among. c.apart k x m f (old k x m h).1 among;
      once = λ k j x y m h g. c.once k j x y m (old k x m h).1 (old j y m g).1;
      root = λ k x m h. c.root k x m (old k x m h).1;
      within = λ k x m h. c.within k x m (old k x m h).1;
      low_within = λ k y l h. c.low_within k y l (low k y l h).1;
      low_dir = c.low_dir;
      low_once = λ k j y z l m h g e. c.low_once k j y z l m (low k y l h).1 (low j z m g).1 e;
      low_root = λ k y l h. c.low_root k y l (low k y l h).1;
      low_held = λ k y l h. c.low_held k y l (low k y l h).1;
      low_kinds = λ k y l h. c.low_kinds k y l (low k y l h).1;
      alike = λ k x m h. c.alike k x m (old k x m h).1;
    }

-- a number that is another one or not
pub cond_other : {A : Type 0} (m n : ℕ) (x y : A) → m ≢ n → cond (m == n) x y ≡ y
cond_other m n x y ne = rw (ne_eqb m n ne) refl

pub cond_same : {A : Type 0} (n : ℕ) (x y : A) → cond (n == n) x y ≡ x
cond_same n x y = rw (eq-eqb n n refl) refl

-- a node that no entry has gets one
pub IsCarried-linked : (form : NameForm) (v : View) (at : ℕ) (name : List ℕ) (n : ℕ) (lower : List ℕ) → IsCarried form v
    → v.is_dir at ≡ true → v.shown at name ≡ None → ((k : ℕ) (x : List ℕ) → v.shown k x ≡ Some n → ⊥) → n ≢ 0 → n < v.count → v.low at lower ≡ None → form.upper lower ≡ Some name → v.dir n ≡ v.is_dir n → ((k : ℕ) (y : List ℕ) (m : Linked) → v.low k y ≡ Some m → m.node ≢ n)
    → IsCarried form (linked v at name n lower)
IsCarried-linked form v at name n lower c is_dir free loose not_root within absent reads alike unheld =
    let l : Linked = record { kind = kind_by (v.is_dir n); node = n } in
    let w : View = linked v at name n lower in
    let entry : (k : ℕ) (x : List ℕ) (m : ℕ) → w.shown k x ≡ Some m → ((k ≡ at) × (x ≡ name) × (m ≡ n)) ⊎ ((k ≡ at → x ≡ name → ⊥) × (v.shown k x ≡ Some m)) = λ k x m h. cases_put at name k x n (v.shown k x) m h in
    let low : (k : ℕ) (y : List ℕ) (m : Linked) → w.low k y ≡ Some m → ((k ≡ at) × (y ≡ lower) × (m ≡ l)) ⊎ ((k ≡ at → y ≡ lower → ⊥) × (v.low k y ≡ Some m)) = λ k y m h. cases_put at lower k y l (v.low k y) m h in
    let own : w.keeps n ≡ lower = cond_same n lower (v.keeps n) in
    let others : (k : ℕ) (x : List ℕ) (m : ℕ) → v.shown k x ≡ Some m → w.keeps m ≡ v.keeps m = λ k x m h. cond_other m n lower (v.keeps m) (λ e. loose k x (subst (λ (j : ℕ). v.shown k x ≡ Some j) e h)) in
    let no_low : (k : ℕ) (y : List ℕ) (m : Linked) → v.low k y ≡ Some m → k ≡ at → y ≡ lower → ⊥ = λ k y m h e f.
    (let g : v.low at lower ≡ Some m = subst (λ (z : List ℕ). v.low at z ≡ Some m) f (subst (λ (j : ℕ). v.low j y ≡ Some m) e h) in let no : Some m ≡ None = sym g ∙ absent in cc) in
    record {
      dirs = c.dirs;
      held = λ k x m h. elim (entry k x m h) [ inl p ↦ subst (λ (j : ℕ). v.is_dir j ≡ true) (sym p.0) is_dir | inr p ↦ c.held k x m p.1 ];
      down = λ k x m h. elim (entry k x m h) [
        | inl p ↦ subst (λ (j : ℕ). w.low k (w.keeps j) ≡ Some (record { kind = kind_by (v.is_dir j); node = j })) (sym p.2)
            (subst (λ (j : ℕ). w.low j (w.keeps n) ≡ Some l) (sym p.0) (subst (λ (z : List ℕ). w.low at z ≡ Some l) (sym own) (put_same at lower (Some l) (v.low at lower))))
        | inr p ↦ (let kept : w.keeps m ≡ v.keeps m = others k x m p.1 in
            subst (λ (z : List ℕ). w.low k z ≡ Some (record { kind = kind_by (v.is_dir m); node = m })) (sym kept)
            (put_other at lower k (v.keeps m) (Some l) (v.low k (v.keeps m)) _ (no_low k (v.keeps m) _ (c.down k x m p.1)) (c.down k x m p.1)))
      ];
      reads = λ k x m h. elim (entry k x m h) [
        | inl p ↦ ap (λ (j : ℕ). form.upper (w.keeps j)) p.2 ∙ ap form.upper own ∙ reads ∙ ap (λ (z : List ℕ). Some z) (sym p.1)
        | inr p ↦ ap form.upper (others k x m p.1) ∙ c.reads k x m p.1
      ];
      up = λ k y m d h. elim (low k y m h) [
        | inl p ↦ inl (
          name,
          subst (λ (j : ℕ). w.shown j name ≡ Some m.node) (sym p.0) (put_same at name (Some n) (v.shown at name) ∙ ap (λ (r : Linked). Some r.node) (sym p.2)),
          ap (λ (r : Linked). w.keeps r.node) p.2 ∙ own ∙ sym p.1,
        )
        | inr p ↦ elim (c.up k y m d p.1) [
          | inl s ↦ inl (
            s.0,
            put_other at name k s.0 (Some n) (v.shown k s.0) _ (λ e f.
                (let g : v.shown at name ≡ Some m.node = subst (λ (z : List ℕ). v.shown at z ≡ Some m.node) f (subst (λ (j : ℕ). v.shown j s.0 ≡ Some m.node) e s.1) in let no : Some m.node ≡ None = sym g ∙ free in cc)) s.1,
            others k s.0 m.node s.1 ∙ s.2,
          )
          | inr f ↦ inr f
        ]
      ];
      foreign = λ k f among. let o = c.foreign k f among in
          (o.0, put_other at lower k f.lower (Some l) (v.low k f.lower) _ (no_low k f.lower o.0 o.1) o.1, o.2);
      apart = λ k x m f h among. elim (entry k x m h) [
        | inl p ↦ λ e. (let o = c.foreign k f among in no_low k f.lower o.0 o.1 p.0 (e ∙ ap w.keeps p.2 ∙ own))
        | inr p ↦ λ e. c.apart k x m f p.1 among (e ∙ others k x m p.1)
      ];
      once = λ k j x y m h g. elim (entry k x m h) [
        | inl p ↦ elim (entry j y m g) [
          | inl q ↦ (p.0 ∙ sym q.0, p.1 ∙ sym q.1)
          | inr q ↦ absurd (loose j y (subst (λ (i : ℕ). v.shown j y ≡ Some i) p.2 q.1))
        ]
        | inr p ↦ elim (entry j y m g) [
          | inl q ↦ absurd (loose k x (subst (λ (i : ℕ). v.shown k x ≡ Some i) q.2 p.1))
          | inr q ↦ c.once k j x y m p.1 q.1
        ]
      ];
      root = λ k x m h. elim (entry k x m h) [ inl p ↦ λ e. not_root (sym p.2 ∙ e) | inr p ↦ c.root k x m p.1 ];
      within = λ k x m h. elim (entry k x m h) [ inl p ↦ subst (λ (j : ℕ). j < v.count) (sym p.2) within | inr p ↦ c.within k x m p.1 ];
      low_within = λ k y m h. elim (low k y m h) [ inl p ↦ subst (λ (r : Linked). r.node < v.count) (sym p.2) within | inr p ↦ c.low_within k y m p.1 ];
      low_dir = c.low_dir;
      alike = λ k x m h. elim (entry k x m h) [ inl p ↦ subst (λ (j : ℕ). v.dir j ≡ v.is_dir j) (sym p.2) alike | inr p ↦ c.alike k x m p.1 ];
      low_once = λ k j y z r m h g e. elim (low k y r h) [
        | inl p ↦ elim (low j z m g) [
          | inl q ↦ (p.0 ∙ sym q.0, p.1 ∙ sym q.1)
          | inr q ↦ absurd (unheld j z m q.1 (sym e ∙ ap (λ (i : Linked). i.node) p.2))
        ]
        | inr p ↦ elim (low j z m g) [
          | inl q ↦ absurd (unheld k y r p.1 (e ∙ ap (λ (i : Linked). i.node) q.2))
          | inr q ↦ c.low_once k j y z r m p.1 q.1 e
        ]
      ];
      low_root = λ k y m h. elim (low k y m h) [ inl p ↦ λ e. not_root (sym (ap (λ (i : Linked). i.node) p.2) ∙ e) | inr p ↦ c.low_root k y m p.1 ];
      low_held = λ k y m h. elim (low k y m h) [ inl p ↦ subst (λ (j : ℕ). v.dir j ≡ true) (sym p.0) (c.dirs at is_dir) | inr p ↦ c.low_held k y m p.1 ];
      low_kinds = λ k y m h. elim (low k y m h) [
        | inl p ↦ subst (λ (r : Linked). r.kind ≡ kind_by (v.dir r.node)) (sym p.2) (ap kind_by (sym alike))
        | inr p ↦ c.low_kinds k y m p.1
      ];
    }

-- a node that no entry has, and below which nothing is, is gone
pub IsCarried-ended : (form : NameForm) (v : View) (n : ℕ) → IsCarried form v
    → ((k : ℕ) (x : List ℕ) → v.shown k x ≡ Some n → ⊥) → ((x : List ℕ) (m : ℕ) → v.shown n x ≡ Some m → ⊥) → ((y : List ℕ) (l : Linked) → v.low n y ≡ Some l → ⊥)
    → ((k : ℕ) (y : List ℕ) (l : Linked) → v.low k y ≡ Some l → l.node ≢ n)
    → IsCarried form (ended v n)
IsCarried-ended form v n c loose bare empty unheld =
    let w : View = ended v n in
    let was : (k : ℕ) → w.is_dir k ≡ true → (k ≢ n) × (v.is_dir k ≡ true) = λ k h. elim (eqb_tells k n) [
      | inl e ↦ (let no : false ≡ true = rw e.0 at h in absurd cc)
      | inr e ↦ (let o : v.is_dir k ≡ true = rw e.0 at h in (e.1, o))
    ] in
    let was_low : (k : ℕ) → w.dir k ≡ true → v.dir k ≡ true = λ k h. elim (eqb_tells k n) [
      | inl e ↦ (let no : false ≡ true = rw e.0 at h in absurd cc)
      | inr e ↦ (let o : v.dir k ≡ true = rw e.0 at h in o)
    ] in
    record {
      dirs = λ k h. let o = was k h in cond_other k n false (v.dir k) o.0 ∙ c.dirs k o.1;
      held = λ k x m h. cond_other k n false (v.is_dir k) (λ e. bare x m (subst (λ (j : ℕ). v.shown j x ≡ Some m) e h)) ∙ c.held k x m h;
      down = λ k x m h. c.down k x m h ∙ ap (λ (b : Bool). Some (record { kind = kind_by b; node = m })) (sym (cond_other m n false (v.is_dir m) (λ e. loose k x (subst (λ (j : ℕ). v.shown k x ≡ Some j) e h))));
      reads = c.reads;
      up = λ k y l d h. c.up k y l (was k d).1 h;
      foreign = c.foreign;
      apart = c.apart;
      once = c.once;
      root = c.root;
      within = c.within;
      low_within = c.low_within;
      low_once = c.low_once;
      low_root = c.low_root;
      low_dir = λ k h. c.low_dir k (was_low k h);
      alike = λ k x m h. (let ne : m ≢ n = λ e. loose k x (subst (λ (j : ℕ). v.shown k x ≡ Some j) e h) in cond_other m n false (v.dir m) ne ∙ c.alike k x m h ∙ sym (cond_other m n false (v.is_dir m) ne));
      low_held = λ k y l h. cond_other k n false (v.dir k) (λ e. empty y l (subst (λ (j : ℕ). v.low j y ≡ Some l) e h)) ∙ c.low_held k y l h;
      low_kinds = λ k y l h. c.low_kinds k y l h ∙ ap kind_by (sym (cond_other l.node n false (v.dir l.node) (unheld k y l h)));
    }

-- a node begins
pub IsCarried-begun : (form : NameForm) (v : View) (is : Bool) → IsCarried form v → IsCarried form (begun v is)
IsCarried-begun form v is c =
    let n : ℕ = v.count in
    let w : View = begun v is in
    let new : (k : ℕ) → v.dir k ≡ true → k ≢ n = λ k h. (let lt : k < n = c.low_dir k h in λ e. omega arith) in
    record {
      dirs = λ k h. elim (eqb_tells k n) [
        | inl e ↦ (let o : is ≡ true = rw e.0 at h in rw e.0 o)
        | inr e ↦ (let o : v.is_dir k ≡ true = rw e.0 at h in rw e.0 (c.dirs k o))
      ];
      held = λ k x m h. cond_other k n is (v.is_dir k) (new k (c.dirs k (c.held k x m h))) ∙ c.held k x m h;
      down = λ k x m h. c.down k x m h ∙ ap (λ (b : Bool). Some (record { kind = kind_by b; node = m })) (sym (cond_other m n is (v.is_dir m) (let lt : m < n = c.within k x m h in λ e. omega arith)));
      reads = c.reads;
      up = λ k y l d h. let ne : k ≢ n = new k (c.low_held k y l h) in c.up k y l (sym (cond_other k n is (v.is_dir k) ne) ∙ d) h;
      foreign = c.foreign;
      apart = c.apart;
      once = c.once;
      root = c.root;
      within = λ k x m h. let lt : m < n = c.within k x m h in omega arith;
      low_within = λ k y l h. let lt : l.node < n = c.low_within k y l h in omega arith;
      low_once = c.low_once;
      low_root = c.low_root;
      low_dir = λ k h. elim (eqb_tells k n) [
        | inl e ↦ (let at : k ≡ n = e.1 in omega arith)
        | inr e ↦ (let o : v.dir k ≡ true = rw e.0 at h in let lt : k < n = c.low_dir k o in omega arith)
      ];
      alike = λ k x m h. (let lt : m < n = c.within k x m h in let ne : m ≢ n = λ e. omega arith in cond_other m n is (v.dir m) ne ∙ c.alike k x m h ∙ sym (cond_other m n is (v.is_dir m) ne));
      low_held = λ k y l h. cond_other k n is (v.dir k) (new k (c.low_held k y l h)) ∙ c.low_held k y l h;
      low_kinds = λ k y l h. (let lt : l.node < n = c.low_within k y l h in c.low_kinds k y l h ∙ ap kind_by (sym (cond_other l.node n is (v.dir l.node) (λ e. omega arith))));
    }
