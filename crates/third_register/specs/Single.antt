-- What a register of one pool means, whose numbers are kept beside one another.
use Rattle.std.specs.Prelude.{ℕ, ◌≤◌, cond, ◌&&◌, Some, None, Ok, Err, Result, ◌==◌}
use Rattle.std.proofs.lemmas.Bool.{cond_both}
use Rattle.rules.specs.declared.refusal.Refusal.{Refusal}
use Rattle.rules.specs.declared.refusal.Refusal.TheVariants.{Account, NoPosition}
use Rattle.registers.specs.Meaning.{Meaning, Sound, SoundPool, most_shares, pool_of}

-- The holder of the pool: a participant, an account (0 where it names none) and a code, which is the pool's number.
abbrev pub single_finds : ℕ → ℕ → ℕ → ℕ → ℕ → ℕ → Result ℕ Refusal
single_finds own_participant own_account own_code participant account code =
    cond (account == own_account)
    (cond (participant == own_participant && code == own_code) (Ok own_code) (Err NoPosition))
    (Err Account)

-- The one pool of a holder.
abbrev pub single_meaning : ℕ → ℕ → ℕ → ℕ → ℕ → Meaning
single_meaning participant account code opening sellable = record { pools = λ k. cond (k == code) (Some (pool_of opening sellable)) None; finds = single_finds participant account code }

-- It is in range where its numbers are.
pub single_sound : (participant account code opening sellable : ℕ) → sellable ≤ opening → opening ≤ most_shares → Sound (single_meaning participant account code opening sellable)
single_sound participant account code opening sellable below capped k = cond_both (k == code) _ _ SoundPool (λ e. record { below = below; capped = capped }) (λ e. tt)
