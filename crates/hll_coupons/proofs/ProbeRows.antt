-- SPDX-License-Identifier: Apache-2.0
-- Examples of searches: eight coupons of value 1 in 32 buckets, which all start at bucket 0.
use Rattle.std.proofs.Common.{◌≡◌, [], ◌∷◌, map, refl}
use Rattle.hll_coupons.specs.Pair.{pair}
use Rattle.hll_coupons.specs.Probe.{stride_of, bucket_of}

-- the strides at the slots 0, 32, .. 224
pub strides : map (λ slot. stride_of 5 (pair slot 1)) (0 ∷ 32 ∷ 64 ∷ 96 ∷ 128 ∷ 160 ∷ 192 ∷ 224 ∷ []) ≡ 1 ∷ 1 ∷ 3 ∷ 3 ∷ 5 ∷ 5 ∷ 7 ∷ 7 ∷ []
strides = refl

-- the buckets that each search comes to. The last one is empty if the coupons came in this order
pub buckets-0 : bucket_of 5 (pair 0 1) 0 ≡ 0
buckets-0 = refl

pub buckets-32 : (bucket_of 5 (pair 32 1) 0 ∷ bucket_of 5 (pair 32 1) 1 ∷ []) ≡ 0 ∷ 1 ∷ []
buckets-32 = refl

pub buckets-64 : (bucket_of 5 (pair 64 1) 0 ∷ bucket_of 5 (pair 64 1) 1 ∷ []) ≡ 0 ∷ 3 ∷ []
buckets-64 = refl

pub buckets-96 : (bucket_of 5 (pair 96 1) 0 ∷ bucket_of 5 (pair 96 1) 1 ∷ bucket_of 5 (pair 96 1) 2 ∷ []) ≡ 0 ∷ 3 ∷ 6 ∷ []
buckets-96 = refl

pub buckets-128 : (bucket_of 5 (pair 128 1) 0 ∷ bucket_of 5 (pair 128 1) 1 ∷ []) ≡ 0 ∷ 5 ∷ []
buckets-128 = refl

pub buckets-160 : (bucket_of 5 (pair 160 1) 0 ∷ bucket_of 5 (pair 160 1) 1 ∷ bucket_of 5 (pair 160 1) 2 ∷ []) ≡ 0 ∷ 5 ∷ 10 ∷ []
buckets-160 = refl

pub buckets-192 : (bucket_of 5 (pair 192 1) 0 ∷ bucket_of 5 (pair 192 1) 1 ∷ []) ≡ 0 ∷ 7 ∷ []
buckets-192 = refl

pub buckets-224 : (bucket_of 5 (pair 224 1) 0 ∷ bucket_of 5 (pair 224 1) 1 ∷ bucket_of 5 (pair 224 1) 2 ∷ []) ≡ 0 ∷ 7 ∷ 14 ∷ []
buckets-224 = refl
