-- Lists that begin with what was there before.
use Rattle.std.proofs.Common.{◌≡◌, ℕ, List, [], ◌++◌, ap, sym, ◌∙◌, append-nil, append_assoc}
use Rattle.octet_model.specs.Octets.{BeginsWith}

-- each list begins with itself
pub same_begins : (list : List ℕ) → BeginsWith list list
same_begins list = record { behind = []; is = sym (append-nil list) }

-- a list with more behind it begins with what it was
pub added_begins : (new old more : List ℕ) → new ≡ old ++ more → BeginsWith new old
added_begins new old more e = record { behind = more; is = e }

-- a list that begins with a list that begins with a third begins with the third
pub begins_through : (new next old : List ℕ) → BeginsWith new next → BeginsWith next old → BeginsWith new old
begins_through new next old h k = record { behind = k.behind ++ h.behind; is = h.is ∙ ap (λ (t : List ℕ). t ++ h.behind) k.is ∙ append_assoc old k.behind h.behind }
