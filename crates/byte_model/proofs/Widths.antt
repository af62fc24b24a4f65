-- Integers of fixed widths: how many bytes spell one, and that the bytes tell it.
use Rattle.std.proofs.Common.{◌≡◌, ℕ, ◌^◌, ◌<◌, length, refl, sym, ◌∙◌, ap}
use Rattle.std.specs.Int.{w16, w32, w64, from_le_bytes}
use Rattle.std.proofs.lemmas.Nat.{from_le_bytes-to_le_bytes_2, from_le_bytes-to_le_bytes_4, from_le_bytes-to_le_bytes_8}
use Rattle.byte_model.specs.Borsh.{borsh_u16, borsh_u32, borsh_u64}

pub length-borsh_u16 : (n : ℕ) → length (borsh_u16 n) ≡ 2
unfolding borsh_u16
length-borsh_u16 n = refl

pub length-borsh_u32 : (n : ℕ) → length (borsh_u32 n) ≡ 4
unfolding borsh_u32
length-borsh_u32 n = refl

pub length-borsh_u64 : (n : ℕ) → length (borsh_u64 n) ≡ 8
unfolding borsh_u64
length-borsh_u64 n = refl

pub borsh_u16-same : (m n : ℕ) → m < 2 ^ 16 → n < 2 ^ 16 → borsh_u16 m ≡ borsh_u16 n → m ≡ n
unfolding borsh_u16
borsh_u16-same m n h k e = sym (from_le_bytes-to_le_bytes_2 m h) ∙ ap (from_le_bytes w16) e ∙ from_le_bytes-to_le_bytes_2 n k

pub borsh_u32-same : (m n : ℕ) → m < 2 ^ 32 → n < 2 ^ 32 → borsh_u32 m ≡ borsh_u32 n → m ≡ n
unfolding borsh_u32
borsh_u32-same m n h k e = sym (from_le_bytes-to_le_bytes_4 m h) ∙ ap (from_le_bytes w32) e ∙ from_le_bytes-to_le_bytes_4 n k

pub borsh_u64-same : (m n : ℕ) → m < 2 ^ 64 → n < 2 ^ 64 → borsh_u64 m ≡ borsh_u64 n → m ≡ n
unfolding borsh_u64
borsh_u64-same m n h k e = sym (from_le_bytes-to_le_bytes_8 m h) ∙ ap (from_le_bytes w64) e ∙ from_le_bytes-to_le_bytes_8 n k
