-- SPDX-License-Identifier: Apache-2.0
-- Two feeds of one text agree.
use Rattle.std.proofs.Common.{◌≡◌, [], Option, Some, None, inl, inr, sym, ◌∙◌, subst}
use Rattle.hll_text.specs.declared.fault.MergeError.{MergeError}
use Rattle.hll_text.specs.Text.{ended_lines, reading}
use Rattle.hll_merge.specs.Stack.{AllRepresent}
use Rattle.hll_merge.specs.Feeding.{Feed, going, stopped, AgreeBy, CutsAgree}
use Rattle.hll_merge.proofs.Accepted.{one_run, runs_or_faults, one_first_fault_from}

by_faults : (s u : Feed) (d e : Option MergeError) → s.fault ≡ d → u.fault ≡ e → AgreeBy d e s u → AgreeBy s.fault u.fault s u
by_faults s u d e f g h = subst (λ x. AgreeBy x u.fault s u) (sym f) (subst (λ x. AgreeBy d x s u) (sym g) h)

pub cuts_agree : CutsAgree
cuts_agree text s u (going f p n ts r h) (going g q m us t k) =
    by_faults s u None None f g (p ∙ sym q, n ∙ sym m, (ts, h, subst (λ xs. AllRepresent u.stack xs) (one_run reading [] (ended_lines text) us ts t r) k))
cuts_agree text s u (going f p n ts r h) (stopped e g q (inl m)) = by_faults s u None (Some e) f g m
cuts_agree text s u (going f p n ts r h) (stopped e g q (inr j)) = absurd (runs_or_faults reading [] 0 (ended_lines text) ts e r j)
cuts_agree text s u (stopped d f p (inl m)) (going g q n us t k) = by_faults s u (Some d) None f g m
cuts_agree text s u (stopped d f p (inr j)) (going g q n us t k) = absurd (runs_or_faults reading [] 0 (ended_lines text) us d t j)
cuts_agree text s u (stopped d f p (inl m)) (stopped e g q j) = by_faults s u (Some d) (Some e) f g (inl m)
cuts_agree text s u (stopped d f p (inr j)) (stopped e g q (inl m)) = by_faults s u (Some d) (Some e) f g (inr (inl m))
cuts_agree text s u (stopped d f p (inr j)) (stopped e g q (inr k)) =
    by_faults s u (Some d) (Some e) f g (inr (inr (one_first_fault_from reading [] 0 (ended_lines text) d e j k)))
