-- The machine values of a `Held`. Assumes `Logic`.
use Rattle.std.proofs.Common.{◌≡◌, ℕ, List, [], ◌∷◌, ◌++◌, refl, subst}
use mathlib.Core.Bool.{Bool, true, false, ◌&&◌}
use lib.Dec.{T}
use seplogic.Ra.Ura.{Ura}
use mir.Syntax.{impl, tnil, dnil, ty_ptr}
use mir.Raw.{raw as bare}
use mir.Val.{Val, vbool, vptr, vstruct, vcons, vnil, of_list, has_ty, WT}
use base.Logic.{never, fst∗}
use base.Fml.{feq, fsep}
use types.Logic.{Logic, sem}
use types.Kit.{Item, Goal, Seq, Step, step, ‵, ◌$◌, drop, fsplit, fjoin, fpick, fpack, feq_i, feq_l}
use denote.RattleType.{RattleType, Valss}
use denote.Builtin.{RawPtr, bool}
use denote.Memory.{lone}
use denote.RawPtr.{Ptr, block_ptr, null_ptr, ptr_val, in_a_block}
use denote.Steps.{nothing}
use denote.Param.Laws.{Laws}
use denote.Struct.Struct.{within}
use denote.Struct.Owning.{shape}
use Rattle.core.proofs.alloc.Calls.{Al}
use Rattle.core.proofs.cell.Inside.{Good}
use Rattle.std.specs.declared.option.Option.{Option}
use Rattle.std.specs.declared.option.Option.TheVariants.{None, Some}
use Rattle.std_alloc.specs.Box.Ownership.{box_owns}
use Rattle.std_alloc.proofs.ResultValues.{and_tt}
use Rattle.std_heap.specs.contracts.Global as heap
use Rattle.std_heap.proofs.Global.TheLaws as heap_laws
use Rattle.std_heap.specs.contracts.GlobalAllocator.TheImpl.{ghosts}
use Rattle.pcache_c.specs.Owned.{held_owns}
use Rattle.pcache_c.specs.contracts.cache.Cache as cache
use Rattle.pcache_c.specs.contracts.held.Held as held

abbrev pub R : RattleType
R = cache.the_row

abbrev pub Z : RattleType
Z = heap.the_row

abbrev pub LZ : Laws Z
LZ = heap_laws.the_row_laws

abbrev pub H : RattleType
H = held.the_row

abbrev pub al : Al
al = record { row = Z; laws = LZ; g = ghosts; d = impl [] tnil dnil; drops = impl [] tnil dnil }

-- a struct of a flag and a pointer
abbrev pub pair : Val → Val → Val
pair u v = vstruct (vcons u (vcons v vnil))

pub held_good : (y : Bool) (v : Val) → Good ty_ptr v → T (has_ty ty_ptr v && true) × WT (pair (vbool y) v)
held_good y v g = (and_tt (has_ty ty_ptr v) g.0, (tt, (g.1, tt)))

module _ {M : Type 1} {𝓤 : Ura M} {𝓛 : Logic 𝓤} {K : Type 0} {Γ : List (Item 𝓤)} {G : Goal 𝓤 𝓛.H} where
  held_cases : K → (y : Bool) (p : Ptr) (d : Option R.Denot)
      → (y ≡ false → d ≡ None → Seq K 𝓛 Γ G)
      → ((b o : ℕ) (a : Z.Denot) (x : R.Denot) → y ≡ true → p ≡ block_ptr b o → d ≡ Some x → Seq K 𝓛 (‵ (box_owns (ghosts.dealloc_token a) R (block_ptr b o) x) ∷ Γ) G)
      → Seq K 𝓛 (‵ (held_owns R y p d) ∷ Γ) G
  held_cases t false p d none some = feq_l t (λ e. none refl e)
  held_cases t true p d none some = fpick t (λ c. fsplit t $ feq_l t (λ e.
      in_a_block t p (λ q. box_owns (ghosts.dealloc_token c.0) R q c.1) (fst∗ 𝓤 (never 𝓤) (sem 𝓛 (ghosts.dealloc_token c.0 (bare (lone R.mir)) null_ptr))) (λ b o f. some b o c.0 c.1 refl f e)))

  pub held_out : K → (d : H.Denot) (vs : List Val)
      → (vs ≡ pair (vbool false) (ptr_val d.at) ∷ [] → d.value ≡ None → Seq K 𝓛 Γ G)
      → ((b o : ℕ) (a : Z.Denot) (x : R.Denot) → vs ≡ pair (vbool true) (vptr b o) ∷ [] → d.value ≡ Some x → Seq K 𝓛 (‵ (box_owns (ghosts.dealloc_token a) R (block_ptr b o) x) ∷ Γ) G)
      → Seq K 𝓛 (‵ (H.own_val d vs) ∷ Γ) G
  held_out t d vs none some =
      fsplit t $ fpick t (λ vss. fsplit t $ feq_l t (λ ev. fsplit t $ feq_l t (λ ey. fsplit t $ feq_l t (λ ep. drop t $
      let is : vs ≡ pair (vbool d.full) (ptr_val d.at) ∷ [] =
      subst (λ (ps : List Val). vs ≡ vstruct (of_list (vbool d.full ∷ (ps ++ []))) ∷ []) ep (subst (λ (ys : List Val). vs ≡ vstruct (of_list (ys ++ (vss.1.0 ++ []))) ∷ []) ey ev) in
      held_cases t d.full d.at d.value
      (λ y e. none (subst (λ (z : Bool). vs ≡ pair (vbool z) (ptr_val d.at) ∷ []) y is) e)
      (λ b o a x y p e. some b o a x (subst (λ (q : Ptr). vs ≡ pair (vbool true) (ptr_val q) ∷ []) p (subst (λ (z : Bool). vs ≡ pair (vbool z) (ptr_val d.at) ∷ []) y is)) e)))))

  pub held_in : K → (y : Bool) (p : Ptr) (d : Option R.Denot)
      → Step K 𝓛 (‵ (H.own_val (record { full = y; at = p; value = d }) (pair (vbool y) (ptr_val p) ∷ [])) ∷ Γ) G (‵ (held_owns R y p d) ∷ Γ) G
  held_in t y p d = step (λ s. let v : Val = pair (vbool y) (ptr_val p) in
      nothing t $ feq_i t (List Val) (ptr_val p ∷ []) (ptr_val p ∷ []) refl $ fjoin t $ feq_i t (List Val) (vbool y ∷ []) (vbool y ∷ []) refl $ fjoin t $
      feq_i t (List Val) (v ∷ []) (v ∷ []) refl $ fjoin t $
      fpack t (Valss (bool ∷ RawPtr ∷ [])) (within (shape held.the_type) (y, (p, tt)) (v ∷ [])) (vbool y ∷ [], (ptr_val p ∷ [], tt)) $ fjoin t $ s)

  pub full_in : K → (b o : ℕ) (a : Z.Denot) (x : R.Denot) → Step K 𝓛 (‵ (held_owns R true (block_ptr b o) (Some x)) ∷ Γ) G (‵ (box_owns (ghosts.dealloc_token a) R (block_ptr b o) x) ∷ Γ) G
  full_in t b o a x = step (λ s. feq_i t (Option R.Denot) (Some x) (Some x) refl $ fjoin t $
      fpack t (Z.Denot × R.Denot) (λ c. fsep (feq (Option R.Denot) (Some x) (Some c.1)) (box_owns (ghosts.dealloc_token c.0) R (block_ptr b o) c.1)) (a, x) $ s)
