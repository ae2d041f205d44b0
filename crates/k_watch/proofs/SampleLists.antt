-- Lists of samples.
use Rattle.std.proofs.Common.{◌≡◌, ℕ, ◌≤◌, List, [], ◌∷◌, ◌++◌, refl, sym, ap, ◌∙◌, subst, inl, inr, ⊎_elim, arith, le_refl}
use Rattle.k_watch.specs.declared.sample.Sample.{Sample}
use Rattle.k_watch.specs.Samples.{AllBelow, AllFrom, IsRising, IsAmong, AllAmong, IsLast, newest_of}

pub newest_snoc : (ss : List Sample) (s : Sample) → newest_of (ss ++ s ∷ []) ≡ s.events
newest_snoc [] s = refl
newest_snoc (t ∷ []) s = refl
newest_snoc (t ∷ u ∷ us) s = newest_snoc (u ∷ us) s

pub newest_last : (ss : List Sample) (s : Sample) → IsLast s ss → newest_of ss ≡ s.events
newest_last ss s l = ap newest_of l.1 ∙ newest_snoc l.0 s

pub last_snoc : (ss : List Sample) (s : Sample) → IsLast s (ss ++ s ∷ [])
last_snoc ss s = (ss, refl)

-- what stands first is not above what stands behind it
from_snoc : (n : ℕ) (ss : List Sample) (s : Sample) → AllFrom n (ss ++ s ∷ []) → n ≤ s.events
from_snoc n [] s f = f.0
from_snoc n (t ∷ ts) s f = from_snoc n ts s f.1

rising_snoc_below : (ss : List Sample) (s : Sample) → IsRising (ss ++ s ∷ []) → AllBelow s.events (ss ++ s ∷ [])
rising_snoc_below [] s r = (le_refl s.events, tt)
rising_snoc_below (t ∷ ts) s r = (from_snoc t.events ts s r.0, rising_snoc_below ts s r.1)

-- none has more events than the last
pub rising_below : (ss : List Sample) (s : Sample) → IsLast s ss → IsRising ss → AllBelow s.events ss
rising_below ss s l r = subst (AllBelow s.events) (sym l.1) (rising_snoc_below l.0 s (subst IsRising l.1 r))

pub below_more : (n m : ℕ) (ss : List Sample) → n ≤ m → AllBelow n ss → AllBelow m ss
below_more n m [] le b = tt
below_more n m (s ∷ ss) le b = ((let h = b.0 in omega (arith, h, le)), below_more n m ss le b.1)

from_one_more : (n : ℕ) (ss : List Sample) (s : Sample) → AllFrom n ss → n ≤ s.events → AllFrom n (ss ++ s ∷ [])
from_one_more n [] s f le = (le, tt)
from_one_more n (t ∷ ts) s f le = (f.0, from_one_more n ts s f.1 le)

pub rising_one_more : (ss : List Sample) (s : Sample) → IsRising ss → AllBelow s.events ss → IsRising (ss ++ s ∷ [])
rising_one_more [] s r b = (tt, tt)
rising_one_more (t ∷ ts) s r b = (from_one_more t.events ts s r.0 b.0, rising_one_more ts s r.1 b.1)

pub among_longer : (s : Sample) (ts us : List Sample) → IsAmong s ts → IsAmong s (ts ++ us)
among_longer s [] us a = absurd a
among_longer s (t ∷ ts) us a = ⊎_elim (λ (e : t ≡ s). inl e) (λ (m : IsAmong s ts). inr (among_longer s ts us m)) a

pub all_among_longer : (ss ts us : List Sample) → AllAmong ss ts → AllAmong ss (ts ++ us)
all_among_longer [] ts us a = tt
all_among_longer (s ∷ ss) ts us a = (among_longer s ts us a.0, all_among_longer ss ts us a.1)

among_snoc : (s : Sample) (ts : List Sample) → IsAmong s (ts ++ s ∷ [])
among_snoc s [] = inl refl
among_snoc s (t ∷ ts) = inr (among_snoc s ts)

pub among_last : (s : Sample) (ts : List Sample) → IsLast s ts → IsAmong s ts
among_last s ts l = subst (IsAmong s) (sym l.1) (among_snoc s l.0)

pub all_among_one_more : (ss ts : List Sample) (s : Sample) → AllAmong ss ts → IsAmong s ts → AllAmong (ss ++ s ∷ []) ts
all_among_one_more [] ts s a m = (m, tt)
all_among_one_more (x ∷ xs) ts s a m = (a.0, all_among_one_more xs ts s a.1 m)

among_below : (n : ℕ) (s : Sample) (ts : List Sample) → AllBelow n ts → IsAmong s ts → s.events ≤ n
among_below n s [] b a = absurd a
among_below n s (t ∷ ts) b a = ⊎_elim (λ (e : t ≡ s). subst (λ (x : Sample). x.events ≤ n) e b.0) (λ (m : IsAmong s ts). among_below n s ts b.1 m) a

-- what is among these has no more events either
pub all_among_below : (n : ℕ) (ss ts : List Sample) → AllBelow n ts → AllAmong ss ts → AllBelow n ss
all_among_below n [] ts b a = tt
all_among_below n (s ∷ ss) ts b a = (among_below n s ts b a.0, all_among_below n ss ts b a.1)
