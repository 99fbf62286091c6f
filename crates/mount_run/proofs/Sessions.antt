-- The sessions of a job's scripts, before their first operations.
use Rattle.std.proofs.Common.{◌≡◌, ℕ, suc, ◌+◌, ◌<◌, List, [], ◌∷◌, ◌++◌, length, map, refl, sym, ap, ap₂, ◌∙◌, subst, arith}
use Rattle.std.specs.List.{AllByRecursion}
use Rattle.script_model.specs.declared.op.Op.{Op}
use Rattle.session_model.specs.declared.reply.Reply.{Reply}
use Rattle.session_model.specs.Session.{Member, IsFresh, new_member}
use Rattle.session_model.specs.Walks.{members, replies_of}

pub members_length : (first : ℕ) (scripts : List (List Op)) → length (members first scripts) ≡ length scripts
members_length first [] = refl
members_length first (script ∷ scripts) = ap (λ (n : ℕ). suc n) (members_length (first + 1) scripts)

-- one more behind these
members_on : (first : ℕ) (scripts : List (List Op)) (script : List Op) → members first (scripts ++ script ∷ []) ≡ members first scripts ++ new_member (first + length scripts) script ∷ []
members_on first [] script = ap (λ (n : ℕ). new_member n script ∷ []) (omega arith)
members_on first (one ∷ scripts) script =
    let at : first + 1 + length scripts ≡ first + length (one ∷ scripts) = omega arith in
    ap (λ (rest : List Member). new_member first one ∷ rest) (members_on (first + 1) scripts script ∙ ap (λ (n : ℕ). members (first + 1) scripts ++ new_member n script ∷ []) at)

pub members_more : (scripts : List (List Op)) (script : List Op) (sessions : List Member) (number : ℕ) (new : Member) → sessions ≡ members 0 scripts → number ≡ length sessions → new ≡ new_member number script
    → sessions ++ new ∷ [] ≡ members 0 (scripts ++ script ∷ [])
members_more scripts script sessions number new so_far count is =
    let at : number ≡ 0 + length scripts = omega (arith, count, ap length so_far, members_length 0 scripts) in
    ap₂ (λ (l : List Member) (m : Member). l ++ m ∷ []) so_far (is ∙ ap (λ (n : ℕ). new_member n script) at) ∙ sym (members_on 0 scripts script)

pub are_fresh : (first : ℕ) (scripts : List (List Op)) → AllByRecursion IsFresh (members first scripts)
are_fresh first [] = tt
are_fresh first (script ∷ scripts) = (refl, are_fresh (first + 1) scripts)

-- each item of a schedule is a session's number
pub are_numbers : (scripts : List (List Op)) (schedule : List ℕ) → AllByRecursion (λ k. k < length scripts) schedule → AllByRecursion (λ k. k < length (members 0 scripts)) schedule
are_numbers scripts schedule all = subst (λ (n : ℕ). AllByRecursion (λ k. k < n) schedule) (sym (members_length 0 scripts)) all

pub told_replies : (all : List Member) → map (λ (m : Member). m.replies) all ≡ replies_of all
told_replies [] = refl
told_replies (m ∷ all) = ap (λ (rest : List (List Reply)). m.replies ∷ rest) (told_replies all)
