-- What one line more is, and what it leads to.
use Rattle.std.proofs.Common.{◌≡◌, ◌⊎◌, ℕ, ◌+◌, ◌*◌, ◌<◌, ◌≤◌, ◌^◌, Bool, true, false, not, ◌||◌, List, [], ◌∷◌, length, codes, decimal, Some, None}
use Rattle.k_limits.specs.k_types.declared.names.Field.{Field}
use Rattle.k_limits.specs.k_types.declared.setup.LimitRow.{LimitRow}
use Rattle.k_limits.specs.k_types.declared.op.Op.{Op}
use Rattle.k_limits.specs.k_types.Trace.{operations_of}
use Rattle.k_limits.specs.k_types.Steps.{in_range}
use Rattle.k_limits.specs.k_types.TraceRules.{IsBuilt, is_of_version, is_spelled}
use Rattle.k_words.specs.Words.{Text}
use Rattle.k_words.specs.Names.{is_name, declares}
use Rattle.k_trace.specs.declared.place.Place.{Place}
use Rattle.k_trace.specs.declared.place.Place.TheVariants.{Version, Kernel, Types, Limits, Procs, Shared, Operations}
use Rattle.k_trace.specs.Named.{NamedTrace}
use Rattle.k_trace.specs.Spelling.{type_words, limit_words, proc_words, shared_words, line_words}
use Rattle.k_trace.specs.Grown.{with_version, with_kernel, with_type, with_limit, with_proc, with_shared, with_op, has_exit, fits}
use Rattle.k_trace.specs.Judgement.{SoFar, has_process}

abbrev pub at_place : Place → NamedTrace → SoFar
at_place place said = record { place = place; said = said }

abbrev pub version_words : ℕ → List Text
version_words version = codes "kaffe" ∷ decimal version ∷ []

abbrev pub kernel_words : ℕ → ℕ → List Text
kernel_words ceiling dir_fields = codes "kernel" ∷ decimal ceiling ∷ decimal dir_fields ∷ []

abbrev pub root_row : ℕ → LimitRow
root_row max = record { parent = None; hard = true; max = max }

abbrev pub limit_row : ℕ → Bool → ℕ → LimitRow
limit_row parent hard max = record { parent = Some (record { 0 = parent }); hard = hard; max = max }

pub record VersionStep (c : SoFar) (ws : List Text) (d : SoFar) : Type 0 where
  pub version : ℕ
  pub at : c.place ≡ Version
  pub built : IsBuilt version
  pub words : ws ≡ version_words version
  pub after : d ≡ at_place Kernel (with_version c.said version)

pub record KernelStep (c : SoFar) (ws : List Text) (d : SoFar) : Type 0 where
  pub ceiling : ℕ
  pub dir_fields : ℕ
  pub at : c.place ≡ Kernel
  pub small : ceiling < 2 ^ 40
  pub few : dir_fields < 17
  pub room : 16 + 8 * dir_fields ≤ ceiling
  pub words : ws ≡ kernel_words ceiling dir_fields
  pub after : d ≡ at_place Types (with_kernel c.said ceiling dir_fields)

pub record TypeStep (c : SoFar) (ws : List Text) (d : SoFar) : Type 0 where
  pub name : Text
  pub fields : List Field
  pub at : c.place ≡ Types
  pub named : is_name name ≡ true
  pub fresh : declares c.said.names.types name ≡ false
  pub few_fields : length fields ≤ 16
  pub few : length c.said.names.types < 256
  pub words : ws ≡ type_words name fields
  pub after : d ≡ at_place Types (with_type c.said name fields)

pub record RootStep (c : SoFar) (ws : List Text) (d : SoFar) : Type 0 where
  pub name : Text
  pub max : ℕ
  pub at : c.place ≡ Types
  pub named : is_name name ≡ true
  pub fresh : declares c.said.names.limits name ≡ false
  pub small : max < 2 ^ 40
  pub few : length c.said.names.limits < 128
  pub words : ws ≡ limit_words c.said.names name (root_row max)
  pub after : d ≡ at_place Limits (with_limit c.said name (root_row max))

pub record LimitStep (c : SoFar) (ws : List Text) (d : SoFar) : Type 0 where
  pub name : Text
  pub parent : ℕ
  pub hard : Bool
  pub max : ℕ
  pub at : c.place ≡ Limits
  pub named : is_name name ≡ true
  pub fresh : declares c.said.names.limits name ≡ false
  pub small : max < 2 ^ 40
  pub declared : parent < length c.said.names.limits
  pub few : length c.said.names.limits < 128
  pub room : (not hard || fits c.said.trace.limits parent max) ≡ true
  pub words : ws ≡ limit_words c.said.names name (limit_row parent hard max)
  pub after : d ≡ at_place Limits (with_limit c.said name (limit_row parent hard max))

pub record ProcStep (c : SoFar) (ws : List Text) (d : SoFar) : Type 0 where
  pub name : Text
  pub limit : ℕ
  pub at : (c.place ≡ Limits) ⊎ (c.place ≡ Procs)
  pub named : is_name name ≡ true
  pub fresh : declares c.said.names.procs name ≡ false
  pub declared : limit < length c.said.names.limits
  pub few : length c.said.names.procs < 64
  pub words : ws ≡ proc_words c.said.names name (record { 0 = limit })
  pub after : d ≡ at_place Procs (with_proc c.said name (record { 0 = limit }))

pub record SharedStep (c : SoFar) (ws : List Text) (d : SoFar) : Type 0 where
  pub name : Text
  pub at : (c.place ≡ Procs) ⊎ (c.place ≡ Shared)
  pub named : is_name name ≡ true
  pub fresh : declares c.said.names.procs name ≡ false
  pub fresh_shared : declares c.said.names.shared name ≡ false
  pub few : length c.said.names.shared < 64
  pub words : ws ≡ shared_words name
  pub after : d ≡ at_place Shared (with_shared c.said name)

pub record OperationStep (c : SoFar) (ws : List Text) (d : SoFar) : Type 0 where
  pub process : ℕ
  pub op : Op
  pub at : has_process c.place ≡ true
  pub declared : process < length c.said.names.procs
  pub ranged : in_range c.said.trace op ≡ true
  pub spelled : is_spelled op ≡ true
  pub of_version : is_of_version c.said.trace.version op ≡ true
  pub few : length c.said.trace.order < 200000
  pub lives : has_exit (operations_of c.said.trace process) ≡ false
  pub words : ws ≡ line_words c.said.names process op
  pub after : d ≡ at_place Operations (with_op c.said process op)

pub data Step (c : SoFar) (ws : List Text) (d : SoFar) : Type 0 where
  OfVersion : VersionStep c ws d → Step c ws d
  OfKernel : KernelStep c ws d → Step c ws d
  OfType : TypeStep c ws d → Step c ws d
  OfRoot : RootStep c ws d → Step c ws d
  OfLimit : LimitStep c ws d → Step c ws d
  OfProc : ProcStep c ws d → Step c ws d
  OfShared : SharedStep c ws d → Step c ws d
  OfOperation : OperationStep c ws d → Step c ws d

-- one line after the other
abbrev pub Run : SoFar → List (List Text) → SoFar → Type 0
Run c [] d = c ≡ d
Run c (ws ∷ wss) d = (e : SoFar) × Step c ws e × Run e wss d
