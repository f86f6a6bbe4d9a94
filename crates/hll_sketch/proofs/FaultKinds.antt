-- SPDX-License-Identifier: Apache-2.0
-- A fault of an image is a fault of its data.
use Rattle.std.proofs.Common.{◌≡◌, ℕ, List, refl, sym, ap, ◌∙◌}
use Rattle.hll_base.specs.declared.error.Reason.{Reason}
use Rattle.hll_base.specs.declared.error.Reason.TheVariants as reasons
use Rattle.hll_base.specs.declared.error.ErrorKind.TheVariants.{InvalidData, OutOfMemory}
use Rattle.hll_base.specs.Reason.{kind_of}
use Rattle.hll_coupons.specs.Payload.{ListShape, ListFault, SetShape, SetFault}
use Rattle.hll_coupons.specs.Payload as coupons
use Rattle.hll_registers.specs.Payload.{Hll8Fault, FirstHll8Fault, Hll6Fault, FirstHll6Fault, Hll4Shape, Hll4Fault}
use Rattle.hll_registers.specs.Payload as arrays
use Rattle.hll_sketch.specs.Fault.{HeaderFault, FaultsAreOfData}
use Rattle.hll_sketch.specs.Fault as fault

header_data : (b : List ℕ) (r : Reason) → HeaderFault b r → kind_of r ≡ InvalidData
header_data b r (fault.HeaderFault.short l) = refl
header_data b r (fault.HeaderFault.family l n) = refl
header_data b r (fault.HeaderFault.version l n) = refl
header_data b r (fault.HeaderFault.lg_k l n) = refl
header_data b r (fault.HeaderFault.width l n) = refl
header_data b r (fault.HeaderFault.stage l n) = refl
header_data b r (fault.HeaderFault.preamble l s n) = refl

list_data : (h : ListShape) (b : List ℕ) (r : Reason) → ListFault h b r → kind_of r ≡ InvalidData
list_data h b r (coupons.ListFault.count n) = refl
list_data h b r (coupons.ListFault.short n l) = refl
list_data h b r (coupons.ListFault.coupon n l a) = refl
list_data h b r (coupons.ListFault.number n l a) = refl

set_data : (h : SetShape) (b : List ℕ) (r : Reason) → SetFault h b r → kind_of r ≡ InvalidData
set_data h b r (coupons.SetFault.no_count l) = refl
set_data h b r (coupons.SetFault.count l n) = refl
set_data h b r (coupons.SetFault.short n l) = refl
set_data h b r (coupons.SetFault.coupon n l a) = refl
set_data h b r (coupons.SetFault.number n l a) = refl

hll8_data : (k : ℕ) (b : List ℕ) (r : Reason) → Hll8Fault k b r → kind_of r ≡ InvalidData
hll8_data k b r (arrays.Hll8Fault.no_counts l) = refl
hll8_data k b r (arrays.Hll8Fault.zero_count l n) = refl
hll8_data k b r (arrays.Hll8Fault.exceptions_counted l n) = refl
hll8_data k b r (arrays.Hll8Fault.short l) = refl
hll8_data k b r (arrays.Hll8Fault.register l n) = refl

first_hll8_data : (k : ℕ) (b : List ℕ) (r : Reason) → FirstHll8Fault k b r → kind_of r ≡ InvalidData
first_hll8_data k b r (arrays.FirstHll8Fault.no_counts l) = refl
first_hll8_data k b r (arrays.FirstHll8Fault.zero_count l n) = refl
first_hll8_data k b r (arrays.FirstHll8Fault.exceptions_counted l n) = refl
first_hll8_data k b r (arrays.FirstHll8Fault.short c l) = refl
first_hll8_data k b r (arrays.FirstHll8Fault.register c l n) = refl

hll6_data : (k : ℕ) (b : List ℕ) (r : Reason) → Hll6Fault k b r → kind_of r ≡ InvalidData
hll6_data k b r (arrays.Hll6Fault.no_counts l) = refl
hll6_data k b r (arrays.Hll6Fault.zero_count l n) = refl
hll6_data k b r (arrays.Hll6Fault.exceptions_counted l n) = refl
hll6_data k b r (arrays.Hll6Fault.short l) = refl

first_hll6_data : (k : ℕ) (b : List ℕ) (r : Reason) → FirstHll6Fault k b r → kind_of r ≡ InvalidData
first_hll6_data k b r (arrays.FirstHll6Fault.no_counts l) = refl
first_hll6_data k b r (arrays.FirstHll6Fault.zero_count l n) = refl
first_hll6_data k b r (arrays.FirstHll6Fault.exceptions_counted l n) = refl
first_hll6_data k b r (arrays.FirstHll6Fault.short c l) = refl

hll4_data : (h : Hll4Shape) (b : List ℕ) (r : Reason) → Hll4Fault h b r → kind_of r ≡ InvalidData
hll4_data h b r (arrays.Hll4Fault.no_counts l) = refl
hll4_data h b r (arrays.Hll4Fault.low_count_above l n) = refl
hll4_data h b r (arrays.Hll4Fault.exceptions_above l n) = refl
hll4_data h b r (arrays.Hll4Fault.table l n c e t) = refl
hll4_data h b r (arrays.Hll4Fault.short n l) = refl
hll4_data h b r (arrays.Hll4Fault.coupon n l a) = refl
hll4_data h b r (arrays.Hll4Fault.number n l a) = refl
hll4_data h b r (arrays.Hll4Fault.register n l a x d) = refl

pub faults_are_of_data : FaultsAreOfData
faults_are_of_data b r (fault.IsFault.header f) = header_data b r f
faults_are_of_data b r (fault.IsFault.list_table l s n) = refl
faults_are_of_data b r (fault.IsFault.list_payload l s f) = list_data _ _ r f
faults_are_of_data b r (fault.IsFault.set_table l s k n) = refl
faults_are_of_data b r (fault.IsFault.set_short l s n) = refl
faults_are_of_data b r (fault.IsFault.set_payload l s k c f) = set_data _ _ r f
faults_are_of_data b r (fault.IsFault.hll_short l s w n) = refl
faults_are_of_data b r (fault.IsFault.hll8_payload l s w k f) = hll8_data _ _ r f
faults_are_of_data b r (fault.IsFault.hll6_payload l s w k f) = hll6_data _ _ r f
faults_are_of_data b r (fault.IsFault.hll4_payload l s w k f) = hll4_data _ _ r f

-- a fault of the header is not of memory
pub not_memory : (b : List ℕ) (r : Reason) → HeaderFault b r → r ≡ reasons.Memory → ⊥
not_memory b r f is = let other : InvalidData ≡ OutOfMemory = sym (header_data b r f) ∙ ap kind_of is in cc

-- neither is the first fault of 8-bit registers
pub eight_not_memory : (k : ℕ) (b : List ℕ) (r : Reason) → FirstHll8Fault k b r → r ≡ reasons.Memory → ⊥
eight_not_memory k b r f is = let other : InvalidData ≡ OutOfMemory = sym (first_hll8_data k b r f) ∙ ap kind_of is in cc

-- nor that of 6-bit registers
pub six_not_memory : (k : ℕ) (b : List ℕ) (r : Reason) → FirstHll6Fault k b r → r ≡ reasons.Memory → ⊥
six_not_memory k b r f is = let other : InvalidData ≡ OutOfMemory = sym (first_hll6_data k b r f) ∙ ap kind_of is in cc
