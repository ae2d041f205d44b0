-- What a call over parts answers, where its parts are of one host.
use Rattle.std.proofs.Common.{◌≡◌, ◌∙◌, ap, sym, subst, Result, Ok, Err}
use Rattle.std.specs.Prelude.{IfErr, IfOk}
use Rattle.k_ends.specs.HostError.{HostError}
use Rattle.k_parts.specs.declared.errors.PartError.{PartError}
use Rattle.k_parts.specs.Calls.{MayRefuse, hosted}

module _ {T : Type 0} (r : Result T HostError) {a : Result T PartError} (is : a ≡ hosted r) where
  pub done_hosted : (P : T → Type 0) → IfOk r P → IfOk a P
  done_hosted P d = subst (λ (x : Result T PartError). IfOk x P) (sym is) (go r d)
    where
      go : (y : Result T HostError) → IfOk y P → IfOk (hosted y) P
      go (Ok value) d = d
      go (Err why) d = tt

  pub why_hosted : (one : Type 0) (reason : HostError → Type 0) → one → IfErr r reason → IfErr a (MayRefuse one reason)
  why_hosted one reason has d = subst (λ (x : Result T PartError). IfErr x (MayRefuse one reason)) (sym is) (go r d)
    where
      go : (y : Result T HostError) → IfErr y reason → IfErr (hosted y) (MayRefuse one reason)
      go (Ok value) d = tt
      go (Err why) d = (has, d)

  pub same_hosted : (P Q : Type 0) → (P → Q) → IfErr r (λ why. P) → IfErr a (λ why. Q)
  same_hosted P Q leads d = subst (λ (x : Result T PartError). IfErr x (λ why. Q)) (sym is) (go r d)
    where
      go : (y : Result T HostError) → IfErr y (λ why. P) → IfErr (hosted y) (λ why. Q)
      go (Ok value) d = tt
      go (Err why) d = leads d

  -- nothing has changed of two parts where the call is refused, of three or of four
  pub same_two : {A B V W : Type 0} (f : A → V) (h : B → W) {x : A} {z : B} {old : V} {old_w : W} (y : A) (w : B) → IfErr r (λ why. (y ≡ x) × (w ≡ z)) → f x ≡ old → h z ≡ old_w → IfErr a (λ why. (f y ≡ old) × (h w ≡ old_w))
  same_two f h {x = x} {z = z} {old = old} {old_w = old_w} y w same of_x of_z =
      same_hosted ((y ≡ x) × (w ≡ z)) ((f y ≡ old) × (h w ≡ old_w)) (λ (s : (y ≡ x) × (w ≡ z)). (ap f s.0 ∙ of_x, ap h s.1 ∙ of_z)) same

  pub same_three : {A B C V W U : Type 0} (f : A → V) (h : B → W) (k : C → U) {x : A} {z : B} {u : C} {old : V} {old_w : W} {old_u : U} (y : A) (w : B) (v : C) → IfErr r (λ why. (y ≡ x) × (w ≡ z) × (v ≡ u)) → f x ≡ old → h z ≡ old_w → k u ≡ old_u →
      IfErr a (λ why. (f y ≡ old) × (h w ≡ old_w) × (k v ≡ old_u))
  same_three f h k {x = x} {z = z} {u = u} {old = old} {old_w = old_w} {old_u = old_u} y w v same of_x of_z of_u =
      same_hosted ((y ≡ x) × (w ≡ z) × (v ≡ u)) ((f y ≡ old) × (h w ≡ old_w) × (k v ≡ old_u)) (λ (s : (y ≡ x) × (w ≡ z) × (v ≡ u)). (ap f s.0 ∙ of_x, ap h s.1 ∙ of_z, ap k s.2 ∙ of_u)) same

  pub same_four : {A B C D V W U Z : Type 0} (f : A → V) (e : D → Z) (k : C → U) (h : B → W) {x : A} {m : D} {u : C} {z : B} {old : V} {old_n : Z} {old_u : U} {old_w : W} (y : A) (n : D) (v : C) (w : B) → IfErr r (λ why. (y ≡ x) × (n ≡ m) × (v ≡ u) × (w ≡ z)) →
      f x ≡ old → e m ≡ old_n → k u ≡ old_u → h z ≡ old_w → IfErr a (λ why. (f y ≡ old) × (e n ≡ old_n) × (k v ≡ old_u) × (h w ≡ old_w))
  same_four f e k h {x = x} {m = m} {u = u} {z = z} {old = old} {old_n = old_n} {old_u = old_u} {old_w = old_w} y n v w same of_x of_m of_u of_z =
      same_hosted ((y ≡ x) × (n ≡ m) × (v ≡ u) × (w ≡ z)) ((f y ≡ old) × (e n ≡ old_n) × (k v ≡ old_u) × (h w ≡ old_w))
      (λ (s : (y ≡ x) × (n ≡ m) × (v ≡ u) × (w ≡ z)). (ap f s.0 ∙ of_x, ap e s.1 ∙ of_m, ap k s.2 ∙ of_u, ap h s.3 ∙ of_z)) same

  -- the same where what the book's part has besides, as it was before, is told apart
  both : (P Q : Type 0) → IfErr r (λ why. P) → IfErr r (λ why. Q) → IfErr r (λ why. P × Q)
  both P Q = go r
    where
      go : (y : Result T HostError) → IfErr y (λ why. P) → IfErr y (λ why. Q) → IfErr y (λ why. P × Q)
      go (Ok value) p q = tt
      go (Err why) p q = (p, q)

  pub same_two_with : {A B F V W : Type 0} (f : A → V) (h : B → F → W) {x : A} {z : B} {m : F} {old : V} {old_w : W} (y : A) (w : B) (n : F) → IfErr r (λ why. (y ≡ x) × (w ≡ z)) → IfErr r (λ why. n ≡ m) → f x ≡ old → h z m ≡ old_w →
      IfErr a (λ why. (f y ≡ old) × (h w n ≡ old_w))
  same_two_with f h {x = x} {z = z} {m = m} {old = old} {old_w = old_w} y w n same kept of_x of_z =
      same_hosted (((y ≡ x) × (w ≡ z)) × (n ≡ m)) ((f y ≡ old) × (h w n ≡ old_w))
      (λ (s : ((y ≡ x) × (w ≡ z)) × (n ≡ m)). (ap f s.0.0 ∙ of_x, ap (λ c. h c n) s.0.1 ∙ ap (h z) s.1 ∙ of_z)) (both ((y ≡ x) × (w ≡ z)) (n ≡ m) same kept)

  pub same_three_with : {A B C F V W U : Type 0} (f : A → V) (k : C → U) (h : B → F → W) {x : A} {u : C} {z : B} {m : F} {old : V} {old_u : U} {old_w : W} (y : A) (v : C) (w : B) (n : F) → IfErr r (λ why. (y ≡ x) × (v ≡ u) × (w ≡ z)) →
      IfErr r (λ why. n ≡ m) → f x ≡ old → k u ≡ old_u → h z m ≡ old_w → IfErr a (λ why. (f y ≡ old) × (k v ≡ old_u) × (h w n ≡ old_w))
  same_three_with f k h {x = x} {u = u} {z = z} {m = m} {old = old} {old_u = old_u} {old_w = old_w} y v w n same kept of_x of_u of_z =
      same_hosted (((y ≡ x) × (v ≡ u) × (w ≡ z)) × (n ≡ m)) ((f y ≡ old) × (k v ≡ old_u) × (h w n ≡ old_w))
      (λ (s : ((y ≡ x) × (v ≡ u) × (w ≡ z)) × (n ≡ m)). (ap f s.0.0 ∙ of_x, ap k s.0.1 ∙ of_u, ap (λ c. h c n) s.0.2 ∙ ap (h z) s.1 ∙ of_z)) (both ((y ≡ x) × (v ≡ u) × (w ≡ z)) (n ≡ m) same kept)
