use Rattle.std.proofs.Common.{ℕ, ◌/◌, ◌^◌, ◌<◌, ◌≤◌, refl, arith, rules, pow_mono}
use Rattle.files.proofs.Numerals.{no_high_bits}
use Rattle.files.proofs.numbers.has_bits.Goals as goal

past : (k s : ℕ) → s < 2 ^ 64 → 64 ≤ k → s < 2 ^ k
past k s h l = omega (arith, pow_mono l)

pub returns : goal.returns
returns c = search (rules, no_high_bits c.args.value c.args.bits (c.args.value / 2 ^ c.args.bits) refl, past c.args.bits c.args.value)
