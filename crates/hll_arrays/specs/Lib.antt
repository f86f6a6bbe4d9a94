-- SPDX-License-Identifier: Apache-2.0
pub mod FewExceptions
pub mod ReadBack
pub mod Same
