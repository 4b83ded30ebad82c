-- A set of base relations with one code more.
use Rattle.std.proofs.Common.{◌≡◌, ℕ, ◌+◌, ◌-◌, ◌*◌, ◌/◌, ◌%◌, ◌^◌, ◌<◌, true, eqb, sym, ap, ◌∙◌, mul-one, arith, pow_pos, pow-add}
use native.Mathlib.Nat.{div-eq_of_lt, add-mul-div_left, add-mul-mod_self_left}
use Rattle.points.specs.Sets.{has}

-- the codes below the new one are as they were
pub has_add_below : (set e k : ℕ) → k < e → has (set + 2 ^ e) k ≡ has set k
has_add_below set e k l =
    let apart : e ≡ k + (1 + (e - k - 1)) = omega arith in
    let split : 2 ^ e ≡ 2 ^ k * 2 ^ (1 + (e - k - 1)) = ap (λ (n : ℕ). 2 ^ n) apart ∙ pow-add 2 k (1 + (e - k - 1)) in
    ap (λ (n : ℕ). eqb (n % 2) 1)
    (ap (λ (n : ℕ). (set + n) / 2 ^ k) split ∙ add-mul-div_left set (2 ^ (1 + (e - k - 1))) (pow_pos k))
    ∙ ap (λ (n : ℕ). eqb ((set / 2 ^ k + n) % 2) 1) (pow-add 2 1 (e - k - 1))
    ∙ ap (λ (n : ℕ). eqb n 1) (add-mul-mod_self_left (set / 2 ^ k) 2 (2 ^ (e - k - 1)))

-- and the new one is in the set
pub has_add_here : (set e : ℕ) → set < 2 ^ e → has (set + 2 ^ e) e ≡ true
has_add_here set e h =
    ap (λ (n : ℕ). eqb (n % 2) 1)
    (ap (λ (n : ℕ). (set + n) / 2 ^ e) (sym (mul-one (2 ^ e))) ∙ add-mul-div_left set 1 (pow_pos e) ∙ ap (λ (n : ℕ). n + 1) (div-eq_of_lt h))

pub add_below : (set e : ℕ) → set < 2 ^ e → set + 2 ^ e < 2 ^ (e + 1)
add_below set e h = let double : 2 ^ (e + 1) ≡ 2 ^ e * 2 = pow-add 2 e 1 in omega arith
