-- SPDX-License-Identifier: Apache-2.0
use Rattle.std.proofs.Common.{arith, ℕ, List, ◌≡◌, ◌+◌, ◌<◌, ◌/◌, ◌%◌, [], ◌∷◌, sym, subst, ◌∙◌, ap}
use Rattle.std.specs.Fmt.{decimal}
use Rattle.std.proofs.lemmas.Fmt.{decimal_digit, decimal_step}
use Rattle.hll_text.specs.Refusal.{Sends}
use Rattle.hll_text.proofs.SendLemmas.{Sends-failed, Sends-second}
use Rattle.hll_text.proofs.refusal.+write_number.Goals as goal

-- a number below ten is its last digit
decimal-small : (n : ℕ) → n < 10 → decimal n ≡ (48 + n % 10) ∷ []
decimal-small n h = let same : n ≡ n % 10 = omega arith in decimal_digit n h ∙ ap (λ d. (48 + d) ∷ []) same

pub returns-then-number-lt10 : goal.returns-then-number-lt10
returns-then-number-lt10 g t c =
    subst (λ (xs : List ℕ). Sends (g.W.Write.contents c.args.writer.now) (g.W.Write.contents c.write_piece.new.writer) c.write_piece.result xs)
    (sym (decimal-small c.args.number c.if-number-lt10.true)) c.write_piece.ensures

pub returns-in_err-write_number : goal.returns-in_err-write_number
returns-in_err-write_number g t c =
    let old = g.W.Write.contents c.args.writer.now in
    let now = g.W.Write.contents c.write_number.new.writer in
    let n : ℕ = c.args.number in
    subst (λ (xs : List ℕ). Sends old now c.from_residual.result xs) (sym (decimal_step n c.if-number-lt10.false (omega (arith, c.ranges.number))))
    (Sends-failed old now c.from_residual.result c.in_err-write_number.field-0.0 (decimal (n / 10)) ((48 + n % 10) ∷ [])
    c.from_residual.ensures.1 c.in_err-write_number.ensures)

pub returns : goal.returns
returns g t c =
    let old = g.W.Write.contents c.args.writer.now in
    let mid = g.W.Write.contents c.write_number.new.writer in
    let now = g.W.Write.contents c.write_piece-2.new.writer in
    let n : ℕ = c.args.number in
    subst (λ (xs : List ℕ). Sends old now c.write_piece-2.result xs) (sym (decimal_step n c.if-number-lt10.false (omega (arith, c.ranges.number))))
    (Sends-second old mid now c.write_piece-2.result (decimal (n / 10)) ((48 + n % 10) ∷ []) c.in_ok-write_number.ensures c.write_piece-2.ensures)
