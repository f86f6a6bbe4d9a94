-- SPDX-License-Identifier: Apache-2.0
-- The block goes back to the inner allocator, which it came from. Assumes `Logic`.
use Rattle.std.proofs.Common.{◌≡◌, ℕ, ◌+◌, List, [], ◌∷◌, refl, w64}
use Rattle.std.proofs.raw_atomic.Walks.{proved, leaves}
use Rattle.std.proofs.alloc.Calls.{Al, α, seen, token, Gives, at_gives, Gives-goes, Gives-Gives}
use Rattle.std.specs.Allocator.{owned_block}
use mir.Syntax.{Args, a_type, dnil, dcons}
use mir.Val.{Val, vunit}
use mir.MapTy.{inst_fn}
use base.Logic.{id⊢}
use base.Fml.{ftrue, flft}
use prog.Memory.{size, align, capped, up}
use prog.Wp.{WpFn}
use contract.BorrowLft.{◌⊑◌, ⊑_trans}
use contract.Monad.{fact}
use contract.Running.{tables}
use types.Run.{stop, fld, addr, of_opd, unit_lit, no_more, and_then, returns, enter}
use types.Kit.{‵, raw, ◌⊛◌, later, given, prop, ◌$◌, ◌∵◌, !, qed, by, move, keep, use1, split, split3, join, fsplit, fjoin, feq_i, learn, rewrite, regoal, await}
use types.ByLocal.{alloc_all, pass_all, free_all, look_at, get, through, sets, lands_as}
use denote.Exit.{yes}
use denote.RattleType.{owns}
use denote.Ref.{shr_vals}
use denote.Opens.{unhide}
use denote.Param.{bounded, param}
use denote.Plain.{uint_vals, uint_Tells}
use denote.RawPtr.{Ptr, block_ptr, room_for, in_a_block, rawptr_vals, rawptr_Tells}
use denote.Builtin.{usize, RawPtr, RefOf}
use denote.Signature.{Slot, plain, types_at}
use denote.Steps.{heard, nothing}
use denote.Triple.Call.{calls_at}
use denote.Triple.Table.{framed}
use denote.Triple.Walked.{Stays, stay_dropped, walk_of, Goes-dropped}
use Rattle.hll_memory_tests.specs.contracts.refusing.Refusing as struct_of
use Rattle.hll_memory_tests.specs.contracts.refusing.RefusingAllocator.deallocate as f
use Rattle.hll_memory_tests.proofs.refusing.RefusingAllocator.deallocate.Statement.{statement}
use Rattle.hll_memory_tests.proofs.refusing.RefusingAllocator.deallocate.Code as code

module _ (Z : Al) where
  abbrev here : Args
  here = bounded (a_type ∷ []) (Z.row, tt) (dcons Z.d (dcons Z.drops dnil))

  abbrev self : Slot 2
  self = RefOf (0 ∷ []) tt (plain (λ _. struct_of.the_row (param 0 Z.row))) (λ _. tt)

  abbrev stayed : Stays (f.ended Z.row Z.g Z.d Z.drops).signature.params (f.ended Z.row Z.g Z.d Z.drops).kept
  stayed = (stay_dropped self yes, (stay_dropped (plain (λ _. RawPtr)) yes, (stay_dropped (plain (λ _. usize)) yes, (stay_dropped (plain (λ _. usize)) yes, tt))))

pub deallocate_spec : {M : Type 1} → statement M
deallocate_spec 𝓤 𝓛 𝓜 𝓡 wired Y L g d dd met _ =
    let Z : Al = record { row = Y; laws = L; g = g; d = d; drops = dd } in
    let En = f.ended Y g d dd in let c = f.clauses Y g d dd 𝓛 𝓜.mem 𝓡.returns in
    let W = walk_of 𝓛 En (stayed Z) c in let 𝓣 = tables 𝓤 𝓛.H 𝓜 𝓡 𝓡.env in
    let fn = inst_fn (here Z) code.function in
    let number = Goes-dropped 𝓛 2 (plain (λ _. usize)) yes (λ κs x w. refl) in
    proved 𝓛 En (stayed Z) c 𝓜 𝓡 (Goes-dropped 𝓛 2 (self Z) yes (λ κs x w. refl), (Goes-dropped 𝓛 2 (plain (λ _. RawPtr)) yes (λ κs x w. refl), (number, (number, tt))))
    (f.Key.name (here Z)) fn (code.unfolded 𝓤 𝓛.H 𝓜 𝓡 wired (Y, tt) d dd)
    (λ κs. (shr_vals, (rawptr_vals, (uint_vals w64, (uint_vals w64, tt))))) (λ κs. ((λ r vs s. s.0), (rawptr_Tells, (uint_Tells w64, (uint_Tells w64, tt))))) (λ κs qs bounds a τ are.
    let κ = κs.0 in let q = qs.0 in let r = a.0 in let n = a.1.1.0 in let al = a.1.1.1.0 in let h = r.now.inner in
    let y : Ptr → W.Ghost = λ x. ((κs, qs, bounds, (r, (x, (n, (al, tt)))), (shr_vals r, (rawptr_vals x, (uint_vals w64 n, (uint_vals w64 al, tt))))), τ) in
    -- where the first field is
    let p : ℕ × ℕ = (r.ref_ptr.0, r.ref_ptr.1 + up (align (α Z)) 0) in
    let Gives = Gives Z 𝓛 𝓜.mem 𝓡.returns in
    let Said : Type 0 = (capped (size τ) ≡ n) × (capped (align τ) ≡ al) in
    let other = ‵ (flft κs.1.0 qs.1.0) ⊛ ‵ ftrue in
    qed 𝓛 (((‵ (flft κ q) ⊛ other) ⊛ ‵ (owns (types_at En.signature.params κs) a (y a.1.0).0.4)) ∷ (raw (fact 𝓤 (κs.1.0 ⊑ Y.lives)) ⊛ raw (fact 𝓤 Said) ⊛ ‵ (owned_block (token Z h) τ a.1.0)) ∷ []) ∵
    move ! (1 ∷ []) $ split3 ! $ heard ! _ (λ le. heard ! Said (λ said. fsplit ! $ in_a_block ! a.1.0 (room_for τ) (id⊢ 𝓤 _) (λ b o e.
    let x : Ptr = block_ptr b o in let given_up : Gives.Ghost = at_gives Z 𝓛 𝓜.mem 𝓡.returns κ q p h b o n al τ in
    -- [the inner allocator; the token of κ; the other token; the room; the right to free it]
    move ! (2 ∷ []) $ split ! $ split ! $ move ! (2 ∷ []) $ fsplit ! $ fsplit ! $ move ! (1 ∷ []) $ unhide ! $ fsplit ! $ fsplit ! $ use1 𝓛 (‵ (seen Z κ p h)) (id⊢ 𝓤 _) $
    rewrite ! 8 (λ (z : Ptr). ‵ (token Z h τ z)) e refl $ keep ! (0 ∷ 5 ∷ 6 ∷ 7 ∷ 8 ∷ []) $
    regoal ! (λ (z : Ptr). prop (WpFn 𝓤 𝓛.H 𝓣.C 𝓣.Λ fn (W.args (y z)) (W.post (y z)))) e refl $
    enter ! _ _ _ _ _ $ alloc_all ! (λ l. pass_all ! refl ((tt, tt), ((tt, tt), ((tt, record { fits = are.1.1.0.1 }), ((tt, record { fits = are.1.1.1.0.1 }), tt)))) $
    sets ! (addr ! (through ! refl (fld ! refl (stop !)))) refl (tt, tt) $
    join ! $ move ! (3 ∷ 0 ∷ []) $ join ! $ move ! (2 ∷ 0 ∷ []) $ join ! $
    use1 𝓛 (raw (Gives.pre given_up)) (Gives-goes Z 𝓛 𝓜.mem 𝓡.returns κ q p h (⊑_trans κ κs.1.0 Y.lives bounds.0 le) b o n al τ said.0 said.1 are.1.1.0.1 are.1.1.1.0.1) $
    calls_at ! (framed 𝓤 𝓛.H 𝓜 𝓣) Gives (met.deallocate dd) given_up (and_then ! (get ! refl) (and_then ! (get ! refl) (and_then ! (get ! refl) (and_then ! (get ! refl) (no_more !))))) (λ v.
    use1 𝓛 (later (given (v ≡ vunit) (‵ (flft κ q)))) (Gives-Gives Z 𝓛 𝓜.mem 𝓡.returns κ q p h b o n al τ v) $ await ! tt $ learn ! (λ is_unit.
    lands_as ! is_unit refl (tt, tt) $ sets ! (of_opd ! (unit_lit !)) refl (tt, tt) $ returns ! (look_at ! 0 refl) $ free_all ! refl $
    join ! $ nothing ! $ feq_i ! (List Val) (vunit ∷ []) (vunit ∷ []) refl $ nothing ! $ nothing ! $ fjoin ! $ nothing ! $ fjoin ! $ nothing ! $ fjoin ! $ nothing ! $ fjoin ! $
    keep ! (3 ∷ 0 ∷ 1 ∷ 2 ∷ []) $ by ! (leaves 𝓛 En (stayed Z) c (y x) vunit tt (tt, (tt, (tt, (tt, tt)))) (tt, (tt, (tt, (tt, tt))))))))))))
