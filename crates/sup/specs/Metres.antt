-- Square metres: document 02, T-01, "An area is the doubled total D turned into square metres as the floor of (D + 1,000,000) / 2,000,000".
-- Assumes nothing: these are definitions.
use Rattle.std.specs.Prelude.{ℕ, ◌≡◌, refl, ℤ, pos, neg_ℤ, ◌+ℤ◌}
use Rattle.std.specs.Int.Signed.{shr_z}

-- the doubled square millimetres of a square metre, and half of them
abbrev pub doubled_metre : ℕ
doubled_metre = 2000000

abbrev pub half_metre : ℕ
half_metre = 1000000

-- the floor is toward minus infinity
unfoldable pub metres_of : ℤ → ℤ
metres_of d = shr_z (d +ℤ pos half_metre) doubled_metre

-- ---- computed: a half goes up, on either side of zero

half-above : (metres_of (pos 1000000) ≡ pos 1) × (metres_of (pos 999999) ≡ pos 0) × (metres_of (pos 3000000) ≡ pos 2)
unfolding metres_of
half-above = (refl, refl, refl)

half-below : (metres_of (neg_ℤ (pos 1000000)) ≡ pos 0) × (metres_of (neg_ℤ (pos 1000001)) ≡ neg_ℤ (pos 1)) × (metres_of (neg_ℤ (pos 3000000)) ≡ neg_ℤ (pos 1))
    × (metres_of (neg_ℤ (pos 3000001)) ≡ neg_ℤ (pos 2))
unfolding metres_of
half-below = (refl, refl, refl, refl)

no-area : metres_of (pos 0) ≡ pos 0
unfolding metres_of
no-area = refl

-- the tally's limit
most-area : (metres_of (pos 9000000000000000000) ≡ pos 4500000000000) × (metres_of (neg_ℤ (pos 9000000000000000000)) ≡ neg_ℤ (pos 4500000000000))
unfolding metres_of
most-area = (refl, refl)
