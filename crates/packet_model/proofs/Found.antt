-- What a reader finds at the front of some octets, and which way its tests went.
use Rattle.std.proofs.Common.{◌≡◌, ◌⊎◌, inl, inr, ℕ, Bool, true, false, cond, List, ◌++◌, length, drop, Option, Some, None, Result, Ok, refl}
use Rattle.std.specs.Option.{ok_or}
use Rattle.packet_model.specs.declared.packet.PacketError.{PacketError}
use Rattle.packet_model.specs.declared.packet.PacketError.TheVariants.{Bad}

-- this text stands at the front, and has so many octets
pub record Found (text octets : List ℕ) (used : ℕ) : Type 0 where
  pub parts : octets ≡ text ++ drop used octets
  pub long : used ≡ length text

-- which branch of a choice gave its value
pub chosen : {A : Type 0} (b : Bool) (x y z : A) → cond b x y ≡ z → ((b ≡ true) × (x ≡ z)) ⊎ ((b ≡ false) × (y ≡ z))
chosen true x y z e = inl (refl, e)
chosen false x y z e = inr (refl, e)

abbrev pub some : {A : Type 0} → A → Option A
some x = Some x

pub some_if : {A : Type 0} (b : Bool) (x y : A) → cond b (some x) None ≡ some y → (b ≡ true) × (x ≡ y)
some_if true x y e = (refl, cc)
some_if false x y e = absurd cc

abbrev pub ok : {A : Type 0} → A → Result A PacketError
ok x = Ok x

-- the packet that is read stands at the front
pub read_is : {A : Type 0} (front : Option A) (x : A) → ok_or front Bad ≡ ok x → front ≡ some x
read_is None x e = absurd cc
read_is (Some y) x e = cc
