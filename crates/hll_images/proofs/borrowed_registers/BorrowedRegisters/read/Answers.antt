-- SPDX-License-Identifier: Apache-2.0
use Rattle.hll_images.proofs.ImageRegisters.{no_width, size_of_registers}
use Rattle.hll_images.proofs.borrowed_registers.BorrowedRegisters.read.Goals as goal

pub returns-in-List : goal.returns-in-List
returns-in-List g c =
    let of = c.in_ok-coupons-in-List.ensures.ok in
    record {
      ok = of;
      whole = record { lg_k = c.in_ok-coupons-in-List.ensures.legal; size = size_of_registers c.args.image.now c.in_ok-coupons-in-List.coupons.lg_k _ of };
      width = no_width c.args.image.now c.in_ok-header.header c.in_ok-header.ensures.ok.2 c.in-List.is;
      err = tt;
      plain = tt;
    }
