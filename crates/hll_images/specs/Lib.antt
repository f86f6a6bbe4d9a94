-- SPDX-License-Identifier: Apache-2.0
pub mod BorrowedRegisters
pub mod Canonical
pub mod CouponImages
pub mod Keys
pub mod RegisterImages
