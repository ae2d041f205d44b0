-- A heap that becomes the kernel's: what the end of a process and the absorption of a shared heap have in common.
use Rattle.std.proofs.Common.{◌≡◌, ℕ, ◌⊎◌, cond, sym, ap, ◌∙◌, inl, inr, List, arith, IsTrue, IsFalse, subst}
use Rattle.std.proofs.lemmas.Bool.{false≢true, cases_Bool, false_from_ne_true}
use Rattle.k_types.specs.declared.names.Name.{Name}
use Rattle.k_types.specs.declared.names.Heap.{Heap}
use Rattle.k_types.specs.declared.names.Heap.TheVariants.{Kernel, User, Shared}
use Rattle.k_types.specs.Names.{heap_eq}
use Rattle.k_types.specs.State.{Object, ExitItem, has_exit}
use Rattle.k_types.specs.Sound.{IsLegalStore, AreGuarded, AreExits}
use Rattle.k_types.proofs.NameTests.{heap_eq-true, heap_eq-same, heap_eq_refl}
use Rattle.std.proofs.lemmas.Bool.Decides.{nat_tests}

-- the owner after the merge of the heap g into the kernel
abbrev pub merged : Heap → Heap → Heap
merged g h = cond (heap_eq h g) Kernel h

-- the barrier lets pass after a merge what it let pass before
pub allowed_merged : (g a b : Heap) → IsLegalStore a b → IsLegalStore (merged g a) (merged g b)
allowed_merged Kernel Kernel Kernel t = grind (arith, nat_tests, t)
allowed_merged (User p) Kernel Kernel t = grind (arith, nat_tests, t)
allowed_merged (Shared q) Kernel Kernel t = grind (arith, nat_tests, t)
allowed_merged Kernel Kernel (User y) t = grind (arith, nat_tests, t)
allowed_merged (User p) Kernel (User y) t = grind (arith, nat_tests, t)
allowed_merged (Shared q) Kernel (User y) t = grind (arith, nat_tests, t)
allowed_merged Kernel Kernel (Shared y) t = grind (arith, nat_tests, t)
allowed_merged (User p) Kernel (Shared y) t = grind (arith, nat_tests, t)
allowed_merged (Shared q) Kernel (Shared y) t = grind (arith, nat_tests, t)
allowed_merged Kernel (User x) Kernel t = grind (arith, nat_tests, t)
allowed_merged (User p) (User x) Kernel t = grind (arith, nat_tests, t)
allowed_merged (Shared q) (User x) Kernel t = grind (arith, nat_tests, t)
allowed_merged Kernel (User x) (User y) t = grind (arith, nat_tests, t)
allowed_merged (User p) (User x) (User y) t = grind (arith, nat_tests, t)
allowed_merged (Shared q) (User x) (User y) t = grind (arith, nat_tests, t)
allowed_merged Kernel (User x) (Shared y) t = grind (arith, nat_tests, t)
allowed_merged (User p) (User x) (Shared y) t = grind (arith, nat_tests, t)
allowed_merged (Shared q) (User x) (Shared y) t = grind (arith, nat_tests, t)
allowed_merged Kernel (Shared x) Kernel t = grind (arith, nat_tests, t)
allowed_merged (User p) (Shared x) Kernel t = grind (arith, nat_tests, t)
allowed_merged (Shared q) (Shared x) Kernel t = grind (arith, nat_tests, t)
allowed_merged Kernel (Shared x) (User y) t = grind (arith, nat_tests, t)
allowed_merged (User p) (Shared x) (User y) t = grind (arith, nat_tests, t)
allowed_merged (Shared q) (Shared x) (User y) t = grind (arith, nat_tests, t)
allowed_merged Kernel (Shared x) (Shared y) t = grind (arith, nat_tests, t)
allowed_merged (User p) (Shared x) (Shared y) t = grind (arith, nat_tests, t)
allowed_merged (Shared q) (Shared x) (Shared y) t = grind (arith, nat_tests, t)

-- the exit items after the merge: those of other heaps that still leave their heap, and the merged heap's as the kernel's
pub record AreMerged (own' : ℕ → Heap) (g : Heap) (exits exits' : List ExitItem) : Type 0 where
  pub stay : (h : Heap) (n : Name) → IsFalse (heap_eq h g) → IsTrue (has_exit exits h n) → IsFalse (heap_eq h (own' n.seg.0)) → IsTrue (has_exit exits' h n)
  pub turn : (n : Name) → IsTrue (has_exit exits g n) → IsFalse (heap_eq Kernel (own' n.seg.0)) → IsTrue (has_exit exits' Kernel n)
  pub none : (n : Name) → IsFalse (has_exit exits' g n)
  pub leave : (h : Heap) (n : Name) → IsTrue (has_exit exits' h n) → IsFalse (heap_eq h (own' n.seg.0))
  pub come : (h : Heap) (n : Name) → IsTrue (has_exit exits' h n) → IsTrue (has_exit exits h n) ⊎ ((h ≡ Kernel) × IsTrue (has_exit exits g n))

module _ (own own' : ℕ → Heap) (g : Heap) (is_merged : (seg : ℕ) → own' seg ≡ merged g (own seg)) (objects : List Object) (exits exits' : List ExitItem)
    (guarded : AreGuarded own objects exits) (leaving : AreExits own exits) (are : AreMerged own' g exits exits') where
  of_other : (h : Heap) → IsFalse (heap_eq h g) → merged g h ≡ h
  of_other h apart = ap (λ b. cond b Kernel h) apart

  of_merged : (h : Heap) → IsTrue (heap_eq h g) → merged g h ≡ Kernel
  of_merged h same = ap (λ b. cond b Kernel h) same

  apart_before : (a b : Name) → IsFalse (heap_eq (own' a.seg.0) (own' b.seg.0)) → IsFalse (heap_eq (own a.seg.0) (own b.seg.0))
  apart_before a b apart = false_from_ne_true _ (λ e.
      let same : own' a.seg.0 ≡ own' b.seg.0 = is_merged a.seg.0 ∙ ap (merged g) (heap_eq-true (own a.seg.0) (own b.seg.0) e) ∙ sym (is_merged b.seg.0) in
      false≢true (sym apart ∙ heap_eq-same (own' a.seg.0) (own' b.seg.0) same))

  pub guarded_merged : AreGuarded own' objects exits'
  guarded_merged = record {
    allowed = λ a b r. rw (is_merged a.seg.0, is_merged b.seg.0) (allowed_merged g (own a.seg.0) (own b.seg.0) (guarded.allowed a b r));
    listed = λ a b r apart.
        let before = guarded.listed a b r (apart_before a b apart) in
        elim (cases_Bool (heap_eq (own a.seg.0) g)) [
          | inl same ↦
              let now : own' a.seg.0 ≡ Kernel = is_merged a.seg.0 ∙ of_merged (own a.seg.0) same in
              let exit = ap (λ h. has_exit exits h b) (sym (heap_eq-true (own a.seg.0) g same)) ∙ before in
              ap (λ h. has_exit exits' h b) now ∙ are.turn b exit (ap (λ h. heap_eq h (own' b.seg.0)) (sym now) ∙ apart)
          | inr other ↦
              let now : own' a.seg.0 ≡ own a.seg.0 = is_merged a.seg.0 ∙ of_other (own a.seg.0) other in
              ap (λ h. has_exit exits' h b) now ∙ are.stay (own a.seg.0) b other before (ap (λ h. heap_eq h (own' b.seg.0)) (sym now) ∙ apart)
        ];
  }

  not_merged : (h : Heap) (n : Name) → IsTrue (has_exit exits' h n) → IsFalse (heap_eq h g)
  not_merged h n e = false_from_ne_true _ (λ t. false≢true (sym (are.none n) ∙ ap (λ k. has_exit exits' k n) (sym (heap_eq-true h g t)) ∙ e))

  pub exits_merged : AreExits own' exits'
  exits_merged = record {
    leave = are.leave;
    allowed = λ h n e. elim (are.come h n e) [
      | inl before ↦ rw (is_merged n.seg.0) (subst (λ k. IsLegalStore k (merged g (own n.seg.0))) (of_other h (not_merged h n e)) (allowed_merged g h (own n.seg.0) (leaving.allowed h n before)))
      | inr turned ↦ rw (is_merged n.seg.0, turned.0) (subst (λ k. IsLegalStore k (merged g (own n.seg.0))) (of_merged g (heap_eq_refl g)) (allowed_merged g g (own n.seg.0) (leaving.allowed g n turned.1)))
    ];
  }
