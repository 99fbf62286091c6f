-- One extent under its file key.
use Rattle.std.proofs.Common.{◌≡◌, ℕ, List, ap, subst, ◌∙◌}
use Rattle.cipher_model.specs.Cbc.{IsCbc}
use Rattle.key_model.specs.ExtentIv.{root_iv, extent_iv}

pub under_key : (key keys root iv ps cs : List ℕ) (n : ℕ) → keys ≡ key → root ≡ root_iv key → iv ≡ extent_iv root n → IsCbc keys iv ps cs → IsCbc key (extent_iv (root_iv key) n) ps cs
under_key key keys root iv ps cs n same of_key of_root is =
    subst (λ (v : List ℕ). IsCbc key v ps cs) (of_root ∙ ap (λ (r : List ℕ). extent_iv r n) of_key) (subst (λ (k : List ℕ). IsCbc k iv ps cs) same is)
