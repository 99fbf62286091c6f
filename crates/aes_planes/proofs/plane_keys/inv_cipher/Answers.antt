use Rattle.std.proofs.Common.{◌<◌, ◌-◌, ℕ, List, ap, sym, ◌∙◌, lit<, arith}
use Rattle.cipher_model.specs.Aes.{add_round_key, decrypted, inv_mix_columns, inv_shift_rows, inv_sub_bytes, key_schedule, unrounds}
use Rattle.cipher_model.proofs.InverseCipher.{decrypted-16, round_key-16}
use Rattle.aes_block.proofs.InverseRounds.{unrounds_more, unrounds_none}
use Rattle.aes_planes.specs.Planes.{block_in}
use Rattle.aes_planes.proofs.plane_keys.inv_cipher.Goals as goal

pub rounds-init : goal.rounds-init
rounds-init c k long ks m hm =
    let ws : List ℕ = key_schedule 4 k in
    ap (λ (s : List ℕ). unrounds ws (inv_sub_bytes (inv_shift_rows s)) 9)
    (c.add-s.ensures m ∙ ap (λ (x : List ℕ). add_round_key (block_in c.args.q m) x) (ks 10 (lit< tt) _ m hm ∙ round_key-16 k 10 long))
    ∙ sym (decrypted-16 k (block_in c.args.q m) long)

pub rounds-preserved : goal.rounds-preserved
rounds-preserved c k long ks m hm =
    let ws : List ℕ = key_schedule 4 k in
    let s : List ℕ = block_in c.rounds.s m in
    let r : ℕ = 10 - c.rounds.r in
    let below : r < 11 = omega arith in
    unrounds_more ws s (block_in c.unround-s.result m) (decrypted k (block_in c.args.q m)) c.rounds.r (omega arith)
    (c.rounds.invariant k long ks m hm)
    (c.unround-s.ensures m hm ∙ ap (λ (x : List ℕ). inv_mix_columns (add_round_key (inv_sub_bytes (inv_shift_rows s)) x)) (ks r below _ m hm ∙ round_key-16 k r long))

pub returns-clause-value : goal.returns-clause-value
returns-clause-value c k long ks m hm =
    let ws : List ℕ = key_schedule 4 k in
    let s : List ℕ = block_in c.rounds.s m in
    unrounds_none ws s (block_in c.last_unround.result m) c.rounds.r (omega arith)
    (c.last_unround.ensures m hm ∙ ap (λ (x : List ℕ). add_round_key (inv_sub_bytes (inv_shift_rows s)) x) (ks 0 (lit< tt) _ m hm ∙ round_key-16 k 0 long))
    ∙ c.rounds.invariant k long ks m hm
