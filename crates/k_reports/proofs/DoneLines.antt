-- Lines that are no operation's.
use Rattle.std.proofs.Common.{◌≡◌, ◌∙◌, ◌⊎◌, Bool, true, false, cond, List, [], ◌∷◌, Option, None, Result, Ok, Err, refl, sym, inl, inr}
use Rattle.std.specs.List.{before_first, after_first}
use Rattle.k_types.specs.declared.op.Op.{Op}
use Rattle.k_words.specs.Words.{Text}
use Rattle.k_words.specs.Names.{declares}
use Rattle.k_trace.specs.Named.{DeclaredNames}
use Rattle.k_trace.specs.Forms.{op_of, register_op, bare_op, sharing_op, governing_op}
use Rattle.k_reports.specs.Reading.{reply_of, is_equals, done_with, done_of}

either_none : {A : Type 0} (t : Bool) → (let r : Option A = None in r) ≡ cond t None None
either_none true = refl
either_none false = refl

pub no_reply : {E : Type 0} (names : DeclaredNames) (name : Text) (r : Result Op E) → None ≡ done_with names name r []
unfolding reply_of
no_reply names name (Err reason) = refl
no_reply names name (Ok op) = either_none (declares names.procs name)

-- On one side of the equals sign there is nothing.
pub one_sided : (names : DeclaredNames) (ws : List Text) → (before_first is_equals ws ≡ []) ⊎ (after_first is_equals ws ≡ []) → None ≡ done_of names ws
unfolding done_of op_of register_op bare_op sharing_op governing_op
one_sided names ws (inl e) = rw e refl
one_sided names ws (inr e) = rw e (no_reply names _ _)

-- There is but one word before it.
pub no_operation : (names : DeclaredNames) (ws before : List Text) (w : Text) → before ≡ before_first is_equals ws → before ≡ w ∷ [] → None ≡ done_of names ws
unfolding done_of op_of register_op bare_op sharing_op governing_op
no_operation names ws before w e f = let g : before_first is_equals ws ≡ w ∷ [] = sym e ∙ f in rw g refl
