-- SPDX-License-Identifier: Apache-2.0
pub mod Hash
pub mod Reason
pub mod Join
