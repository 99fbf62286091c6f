-- Each gate's bit is what the gate says, so the bits are those of the circuit.
use Rattle.std.proofs.Common.{ℕ, ◌<◌, List, [], ◌∷◌}
use Rattle.std.proofs.lemmas.Nat.Bits.{bit_at-lt}
use Rattle.std.specs.Prelude.{slice_index}
use Rattle.aes_planes.specs.Planes.{bit_of}
use Rattle.aes_planes.proofs.Circuit.{◌⨾◌}
use Rattle.aes_planes.proofs.InvSbox.{inv_sbox_at}
use Rattle.aes_planes.proofs.sub_bytes.inv_sub_bits.Goals as goal

pub returns : goal.returns
returns c i m hi hm =
    let b : List ℕ → ℕ = λ p. bit_of p i m in
    let lt : (p : List ℕ) → b p < 2 = λ p. bit_at-lt (slice_index p i) m in
    let q = c.args.q in
    inv_sbox_at (b q.p0) (b q.p1) (b q.p2) (b q.p3) (b q.p4) (b q.p5) (b q.p6) (b q.p7)
    (b c.not-q0n.result ∷ b c.not-q1n.result ∷ b c.not-q5n.result ∷ b c.not-q6n.result ∷ b c.xor-u0.result ∷ b c.xor-u1.result ∷ b c.xor-u2.result ∷
    b c.xor-u3.result ∷ b c.xor-u4.result ∷ b c.xor-u5.result ∷ b c.xor-u6.result ∷ b c.xor-u7.result ∷ b c.xor-u8.result ∷ b c.xor-u9.result ∷
    b c.xor-u10.result ∷ b c.xor-u11.result ∷ b c.xor-u12.result ∷ b c.xor-u13.result ∷ b c.xor-u14.result ∷ b c.xor-u15.result ∷
    b c.xor-u16.result ∷ b c.xor-u17.result ∷ b c.xor-u18.result ∷ b c.xor-u19.result ∷ b c.xor-u20.result ∷ b c.xor-u21.result ∷
    b c.xor-u22.result ∷ b c.and-t2.result ∷ b c.and-t3.result ∷ b c.xor-t4.result ∷ b c.and-t5.result ∷ b c.xor-t6.result ∷ b c.and-t7.result ∷
    b c.and-t8.result ∷ b c.xor-t9.result ∷ b c.and-t10.result ∷ b c.xor-t11.result ∷ b c.and-t12.result ∷ b c.and-t13.result ∷ b c.xor-t14.result ∷
    b c.and-t15.result ∷ b c.xor-t16.result ∷ b c.xor-t17.result ∷ b c.xor-t18.result ∷ b c.xor-t19.result ∷ b c.xor-t20.result ∷
    b c.xor-t21.result ∷ b c.xor-t22.result ∷ b c.xor-t23.result ∷ b c.xor-t24.result ∷ b c.xor-t25.result ∷ b c.and-t26.result ∷
    b c.xor-t27.result ∷ b c.and-t28.result ∷ b c.xor-t29.result ∷ b c.xor-t30.result ∷ b c.xor-t31.result ∷ b c.and-t32.result ∷
    b c.xor-t33.result ∷ b c.xor-t34.result ∷ b c.xor-t35.result ∷ b c.and-t36.result ∷ b c.xor-t37.result ∷ b c.xor-t38.result ∷
    b c.and-t39.result ∷ b c.xor-t40.result ∷ b c.xor-t41.result ∷ b c.xor-t42.result ∷ b c.xor-t43.result ∷ b c.xor-t44.result ∷
    b c.xor-t45.result ∷ b c.and-z0.result ∷ b c.and-z1.result ∷ b c.and-z2.result ∷ b c.and-z3.result ∷ b c.and-z4.result ∷ b c.and-z5.result ∷
    b c.and-z6.result ∷ b c.and-z7.result ∷ b c.and-z8.result ∷ b c.and-z9.result ∷ b c.and-z10.result ∷ b c.and-z11.result ∷ b c.and-z12.result ∷
    b c.and-z13.result ∷ b c.and-z14.result ∷ b c.and-z15.result ∷ b c.and-z16.result ∷ b c.and-z17.result ∷ b c.xor-v0.result ∷ b c.xor-v1.result ∷
    b c.xor-v2.result ∷ b c.xor-v3.result ∷ b c.xor-v4.result ∷ b c.xor-v5.result ∷ b c.xor-v6.result ∷ b c.xor-v7.result ∷ b c.xor-v8.result ∷
    b c.xor-v9.result ∷ b c.xor-v10.result ∷ b c.xor-v11.result ∷ b c.xor-v12.result ∷ b c.xor-v13.result ∷ b c.xor-v14.result ∷ b c.xor-v15.result ∷
    b c.xor-v16.result ∷ b c.xor-v17.result ∷ b c.xor-v18.result ∷ b c.xor-v19.result ∷ b c.xor-v20.result ∷ b c.xor-v21.result ∷
    b c.xor-v22.result ∷ b c.xor-v23.result ∷ b c.xor-v24.result ∷ b c.xor-v25.result ∷ b c.xor-v26.result ∷ b c.xor-v27.result ∷
    b c.xor-v28.result ∷ b c.xor-v29.result ∷ b c.xor-v30.result ∷ b c.xor-v31.result ∷ b c.xor-v32.result ∷ b c.xor-v33.result ∷
    b c.xor-v34.result ∷ [])
    (lt q.p0) (lt q.p1) (lt q.p2) (lt q.p3) (lt q.p4) (lt q.p5) (lt q.p6) (lt q.p7)
    (c.not-q0n.ensures i m hi hm ⨾ c.not-q1n.ensures i m hi hm ⨾ c.not-q5n.ensures i m hi hm ⨾ c.not-q6n.ensures i m hi hm ⨾ c.xor-u0.ensures i m ⨾
    c.xor-u1.ensures i m ⨾ c.xor-u2.ensures i m ⨾ c.xor-u3.ensures i m ⨾ c.xor-u4.ensures i m ⨾ c.xor-u5.ensures i m ⨾ c.xor-u6.ensures i m ⨾
    c.xor-u7.ensures i m ⨾ c.xor-u8.ensures i m ⨾ c.xor-u9.ensures i m ⨾ c.xor-u10.ensures i m ⨾ c.xor-u11.ensures i m ⨾ c.xor-u12.ensures i m ⨾
    c.xor-u13.ensures i m ⨾ c.xor-u14.ensures i m ⨾ c.xor-u15.ensures i m ⨾ c.xor-u16.ensures i m ⨾ c.xor-u17.ensures i m ⨾ c.xor-u18.ensures i m ⨾
    c.xor-u19.ensures i m ⨾ c.xor-u20.ensures i m ⨾ c.xor-u21.ensures i m ⨾ c.xor-u22.ensures i m ⨾ c.and-t2.ensures i m ⨾ c.and-t3.ensures i m ⨾
    c.xor-t4.ensures i m ⨾ c.and-t5.ensures i m ⨾ c.xor-t6.ensures i m ⨾ c.and-t7.ensures i m ⨾ c.and-t8.ensures i m ⨾ c.xor-t9.ensures i m ⨾
    c.and-t10.ensures i m ⨾ c.xor-t11.ensures i m ⨾ c.and-t12.ensures i m ⨾ c.and-t13.ensures i m ⨾ c.xor-t14.ensures i m ⨾ c.and-t15.ensures i m ⨾
    c.xor-t16.ensures i m ⨾ c.xor-t17.ensures i m ⨾ c.xor-t18.ensures i m ⨾ c.xor-t19.ensures i m ⨾ c.xor-t20.ensures i m ⨾ c.xor-t21.ensures i m ⨾
    c.xor-t22.ensures i m ⨾ c.xor-t23.ensures i m ⨾ c.xor-t24.ensures i m ⨾ c.xor-t25.ensures i m ⨾ c.and-t26.ensures i m ⨾ c.xor-t27.ensures i m ⨾
    c.and-t28.ensures i m ⨾ c.xor-t29.ensures i m ⨾ c.xor-t30.ensures i m ⨾ c.xor-t31.ensures i m ⨾ c.and-t32.ensures i m ⨾ c.xor-t33.ensures i m ⨾
    c.xor-t34.ensures i m ⨾ c.xor-t35.ensures i m ⨾ c.and-t36.ensures i m ⨾ c.xor-t37.ensures i m ⨾ c.xor-t38.ensures i m ⨾ c.and-t39.ensures i m ⨾
    c.xor-t40.ensures i m ⨾ c.xor-t41.ensures i m ⨾ c.xor-t42.ensures i m ⨾ c.xor-t43.ensures i m ⨾ c.xor-t44.ensures i m ⨾ c.xor-t45.ensures i m ⨾
    c.and-z0.ensures i m ⨾ c.and-z1.ensures i m ⨾ c.and-z2.ensures i m ⨾ c.and-z3.ensures i m ⨾ c.and-z4.ensures i m ⨾ c.and-z5.ensures i m ⨾
    c.and-z6.ensures i m ⨾ c.and-z7.ensures i m ⨾ c.and-z8.ensures i m ⨾ c.and-z9.ensures i m ⨾ c.and-z10.ensures i m ⨾ c.and-z11.ensures i m ⨾
    c.and-z12.ensures i m ⨾ c.and-z13.ensures i m ⨾ c.and-z14.ensures i m ⨾ c.and-z15.ensures i m ⨾ c.and-z16.ensures i m ⨾ c.and-z17.ensures i m ⨾
    c.xor-v0.ensures i m ⨾ c.xor-v1.ensures i m ⨾ c.xor-v2.ensures i m ⨾ c.xor-v3.ensures i m ⨾ c.xor-v4.ensures i m ⨾ c.xor-v5.ensures i m ⨾
    c.xor-v6.ensures i m ⨾ c.xor-v7.ensures i m ⨾ c.xor-v8.ensures i m ⨾ c.xor-v9.ensures i m ⨾ c.xor-v10.ensures i m ⨾ c.xor-v11.ensures i m ⨾
    c.xor-v12.ensures i m ⨾ c.xor-v13.ensures i m ⨾ c.xor-v14.ensures i m ⨾ c.xor-v15.ensures i m ⨾ c.xor-v16.ensures i m ⨾ c.xor-v17.ensures i m ⨾
    c.xor-v18.ensures i m ⨾ c.xor-v19.ensures i m ⨾ c.xor-v20.ensures i m ⨾ c.xor-v21.ensures i m ⨾ c.xor-v22.ensures i m ⨾ c.xor-v23.ensures i m ⨾
    c.xor-v24.ensures i m ⨾ c.xor-v25.ensures i m ⨾ c.xor-v26.ensures i m ⨾ c.xor-v27.ensures i m ⨾ c.xor-v28.ensures i m ⨾ c.xor-v29.ensures i m ⨾
    c.xor-v30.ensures i m ⨾ c.xor-v31.ensures i m ⨾ c.xor-v32.ensures i m ⨾ c.xor-v33.ensures i m ⨾ c.xor-v34.ensures i m ⨾ tt)
