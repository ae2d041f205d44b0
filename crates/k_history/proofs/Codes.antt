-- Operations and replies as numbers, by which two of them are told apart.
use Rattle.std.proofs.Common.{◌≡◌, ◌∙◌, ◌⊎◌, ℕ, Bool, true, false, cond, eqb, List, [], ◌∷◌, get_or, Some, None, refl, sym, ap, inl, inr}
use Rattle.std.specs.Str.{bytes_eq}
use Rattle.std.proofs.lemmas.Slice.Eq.{bytes_eq-Decides}
use Rattle.k_types.specs.declared.names.Name.{Name}
use Rattle.k_types.specs.declared.op.Op.{Op}
use Rattle.k_types.specs.declared.op.Op.TheVariants.{New, KNew, SNew, Store, Load, Move, Clear, Dir, Put, Get, Collect, KCollect, Share, Freeze, Attach, Exit, Kill, Resize}
use Rattle.k_types.specs.declared.event.Fault.{Fault}
use Rattle.k_types.specs.declared.event.Fault.TheVariants.{Null, Foreign, NotSharer, NoField, WrongKind, Frozen, Segv, NotPopulating, NotFrozen, Taken, LimitFull, KernelFull, ProcNotBelow, LimitNotBelow, InUse}
use Rattle.k_types.specs.declared.event.Reply.{Reply}
use Rattle.k_types.specs.declared.event.Reply.TheVariants.{Done as DoneReply, Made, Loaded, Value, Refused}

same_list : (xs ys : List ℕ) (t : Bool) → bytes_eq xs ys ≡ t → (xs ≡ ys) ⊎ ¬ (xs ≡ ys)
same_list xs ys true e = inl ((bytes_eq-Decides xs ys).0 e)
same_list xs ys false e = inr (λ s. absurd (let f : false ≡ true = sym e ∙ (bytes_eq-Decides xs ys).1 s in cc))

-- What is told by numbers is told apart.
same_coded : {A : Type 0} (code : A → List ℕ) (decode : List ℕ → A) → ((x : A) → decode (code x) ≡ x) → (x y : A) → (x ≡ y) ⊎ ¬ (x ≡ y)
same_coded code decode back x y = elim (same_list (code x) (code y) (bytes_eq (code x) (code y)) refl) [
  | inl e ↦ inl (sym (back x) ∙ ap decode e ∙ back y)
  | inr other ↦ inr (λ s. other (ap code s))
]

-- The number at that place.
abbrev at : List ℕ → ℕ → ℕ
at ns i = get_or ns i 0

abbrev op_code : Op → List ℕ
op_code (New r ty) = 0 ∷ r.0 ∷ ty.0 ∷ []
op_code (KNew r ty) = 1 ∷ r.0 ∷ ty.0 ∷ []
op_code (SNew r s ty) = 2 ∷ r.0 ∷ s.0 ∷ ty.0 ∷ []
op_code (Store base i value) = 3 ∷ base.0 ∷ i ∷ value.0 ∷ []
op_code (Load r base i) = 4 ∷ r.0 ∷ base.0 ∷ i ∷ []
op_code (Move r from) = 5 ∷ r.0 ∷ from.0 ∷ []
op_code (Clear r) = 6 ∷ r.0 ∷ []
op_code (Dir r) = 7 ∷ r.0 ∷ []
op_code (Put base i number) = 8 ∷ base.0 ∷ i ∷ number ∷ []
op_code (Get base i) = 9 ∷ base.0 ∷ i ∷ []
op_code Collect = 10 ∷ []
op_code KCollect = 11 ∷ []
op_code (Share s) = 12 ∷ s.0 ∷ []
op_code (Freeze s root) = 13 ∷ s.0 ∷ root.0 ∷ []
op_code (Attach r s) = 14 ∷ r.0 ∷ s.0 ∷ []
op_code Exit = 15 ∷ []
op_code (Kill q) = 16 ∷ q.0 ∷ []
op_code (Resize m max) = 17 ∷ m.0 ∷ max ∷ []

-- The operation of the numbers.
abbrev op_of_code : List ℕ → Op
op_of_code ns =
    cond (eqb (at ns 0) 0) (New (record { 0 = at ns 1 }) (record { 0 = at ns 2 }))
    (cond (eqb (at ns 0) 1) (KNew (record { 0 = at ns 1 }) (record { 0 = at ns 2 }))
    (cond (eqb (at ns 0) 2) (SNew (record { 0 = at ns 1 }) (record { 0 = at ns 2 }) (record { 0 = at ns 3 }))
    (cond (eqb (at ns 0) 3) (Store (record { 0 = at ns 1 }) (at ns 2) (record { 0 = at ns 3 }))
    (cond (eqb (at ns 0) 4) (Load (record { 0 = at ns 1 }) (record { 0 = at ns 2 }) (at ns 3))
    (cond (eqb (at ns 0) 5) (Move (record { 0 = at ns 1 }) (record { 0 = at ns 2 }))
    (cond (eqb (at ns 0) 6) (Clear (record { 0 = at ns 1 }))
    (cond (eqb (at ns 0) 7) (Dir (record { 0 = at ns 1 }))
    (cond (eqb (at ns 0) 8) (Put (record { 0 = at ns 1 }) (at ns 2) (at ns 3))
    (cond (eqb (at ns 0) 9) (Get (record { 0 = at ns 1 }) (at ns 2))
    (cond (eqb (at ns 0) 10) Collect
    (cond (eqb (at ns 0) 11) KCollect
    (cond (eqb (at ns 0) 12) (Share (record { 0 = at ns 1 }))
    (cond (eqb (at ns 0) 13) (Freeze (record { 0 = at ns 1 }) (record { 0 = at ns 2 }))
    (cond (eqb (at ns 0) 14) (Attach (record { 0 = at ns 1 }) (record { 0 = at ns 2 }))
    (cond (eqb (at ns 0) 15) Exit
    (cond (eqb (at ns 0) 16) (Kill (record { 0 = at ns 1 })) (Resize (record { 0 = at ns 1 }) (at ns 2))))))))))))))))))

op_back : (op : Op) → op_of_code (op_code op) ≡ op
op_back (New r ty) = refl
op_back _ = refl

-- Two operations are one, or not.
pub same_op : (a b : Op) → (a ≡ b) ⊎ ¬ (a ≡ b)
same_op a b = same_coded op_code op_of_code op_back a b

abbrev fault_code : Fault → List ℕ
fault_code Null = 5 ∷ []
fault_code Foreign = 6 ∷ []
fault_code (NotSharer s) = 7 ∷ s.0 ∷ []
fault_code NoField = 8 ∷ []
fault_code WrongKind = 9 ∷ []
fault_code Frozen = 10 ∷ []
fault_code Segv = 11 ∷ []
fault_code (NotPopulating s) = 12 ∷ s.0 ∷ []
fault_code (NotFrozen s) = 13 ∷ s.0 ∷ []
fault_code (Taken s) = 14 ∷ s.0 ∷ []
fault_code (LimitFull m) = 15 ∷ m.0 ∷ []
fault_code KernelFull = 16 ∷ []
fault_code (ProcNotBelow q) = 17 ∷ q.0 ∷ []
fault_code (LimitNotBelow m) = 18 ∷ m.0 ∷ []
fault_code (InUse m) = 19 ∷ m.0 ∷ []

abbrev fault_of_code : List ℕ → Fault
fault_of_code ns =
    cond (eqb (at ns 0) 5) Null
    (cond (eqb (at ns 0) 6) Foreign
    (cond (eqb (at ns 0) 7) (NotSharer (record { 0 = at ns 1 }))
    (cond (eqb (at ns 0) 8) NoField
    (cond (eqb (at ns 0) 9) WrongKind
    (cond (eqb (at ns 0) 10) Frozen
    (cond (eqb (at ns 0) 11) Segv
    (cond (eqb (at ns 0) 12) (NotPopulating (record { 0 = at ns 1 }))
    (cond (eqb (at ns 0) 13) (NotFrozen (record { 0 = at ns 1 }))
    (cond (eqb (at ns 0) 14) (Taken (record { 0 = at ns 1 }))
    (cond (eqb (at ns 0) 15) (LimitFull (record { 0 = at ns 1 }))
    (cond (eqb (at ns 0) 16) KernelFull
    (cond (eqb (at ns 0) 17) (ProcNotBelow (record { 0 = at ns 1 }))
    (cond (eqb (at ns 0) 18) (LimitNotBelow (record { 0 = at ns 1 })) (InUse (record { 0 = at ns 1 })))))))))))))))

abbrev reply_code : Reply → List ℕ
reply_code DoneReply = 0 ∷ []
reply_code (Made n) = 1 ∷ n.seg.0 ∷ n.serial.0 ∷ []
reply_code (Loaded None) = 2 ∷ []
reply_code (Loaded (Some n)) = 3 ∷ n.seg.0 ∷ n.serial.0 ∷ []
reply_code (Value number) = 4 ∷ number ∷ []
reply_code (Refused fault) = fault_code fault

abbrev name_at : List ℕ → Name
name_at ns = record { seg = record { 0 = at ns 1 }; serial = record { 0 = at ns 2 } }

-- The reply of the numbers.
abbrev reply_of_code : List ℕ → Reply
reply_of_code ns =
    cond (eqb (at ns 0) 0) DoneReply
    (cond (eqb (at ns 0) 1) (Made (name_at ns))
    (cond (eqb (at ns 0) 2) (Loaded None)
    (cond (eqb (at ns 0) 3) (Loaded (Some (name_at ns)))
    (cond (eqb (at ns 0) 4) (Value (at ns 1)) (Refused (fault_of_code ns))))))

fault_back : (fault : Fault) → reply_of_code (fault_code fault) ≡ Refused fault
fault_back Null = refl
fault_back _ = refl

reply_back : (reply : Reply) → reply_of_code (reply_code reply) ≡ reply
reply_back DoneReply = refl
reply_back (Made n) = refl
reply_back (Loaded None) = refl
reply_back (Loaded (Some n)) = refl
reply_back (Value number) = refl
reply_back (Refused fault) = fault_back fault

-- Two replies are one, or not.
pub same_reply : (a b : Reply) → (a ≡ b) ⊎ ¬ (a ≡ b)
same_reply a b = same_coded reply_code reply_of_code reply_back a b
