-- SPDX-License-Identifier: Apache-2.0
pub mod Canonical
pub mod CouponImages
pub mod ImageRegisters
pub mod NonzeroRegisters
pub mod RegisterImages
pub mod SortedCoupons
