-- The rules of a trace that speak of its setup are kept where no process has an operation, and a host is read as it is made.
use Rattle.std.proofs.Common.{◌≡◌, ℕ, ◌<◌, ◌≤◌, arith, refl, sym, ap, subst, List, [], ◌∷◌, length, zero-le, Result, Ok, Err, IfErr, IsTrue, OnOk}
use Rattle.std.specs.Prelude.{IfOk}
use Rattle.std.proofs.lemmas.List.{length-replicate}
use Rattle.k_types.specs.declared.names.TypeId.{TypeId}
use Rattle.k_types.specs.declared.op.Op.{Op}
use Rattle.k_types.specs.declared.setup.Setup.{Setup}
use Rattle.k_types.specs.Trace.{operations_of, trace_of}
use Rattle.k_types.specs.TraceRules.{EndsWithExit, KeepsRules, is_of_version, is_spelled}
use Rattle.k_types.specs.Steps.{in_range}
use Rattle.std.specs.List.{list_all}
use Rattle.k_laws.proofs.Sizes.{get_or-same}
use Rattle.k_words.specs.Words.{Text}
use Rattle.k_trace.specs.declared.trace.Trace.{Trace as ReadTrace}
use Rattle.k_trace.specs.Meaning.{meaning_of}
use Rattle.k_trace.specs.Rules.{Spells}
use Rattle.k_ends.specs.k_guests.declared.terms.Terms.{Terms}
use Rattle.k_ends.specs.k_guests.declared.making.Parts.{Parts}
use Rattle.k_ends.specs.k_guests.declared.rooms.Rooms.{Rooms}
use Rattle.k_ends.specs.k_guests.Making.{AreFirstParts, AreFit}
use Rattle.k_ends.specs.k_guests.Serving.{basis_of, open_trace}
use Rattle.k_host.specs.declared.errors.OpenError.{OpenError}
use Rattle.k_host.specs.declared.errors.OpenError.TheVariants.{NoMemory, Bad, Terms as Unfit}
use Rattle.k_host.specs.Hosts.{HaveTailRoom, HostValue, IsFresh}
use Rattle.k_host.specs.Opening.{HasRead, IsNotMade, IsNotRead}

-- the setup in the second version
abbrev pub second_of : Setup → Setup
second_of setup = record setup { version = 2 }

none_ends : EndsWithExit []
none_ends [] op rest is exits = absurd (cc)
none_ends (x ∷ first) op rest is exits = absurd (cc)

module _ (setup : Setup) where
  nothing : (p : ℕ) → p < length setup.procs.items → operations_of (open_trace setup) p ≡ []
  nothing p known = get_or-same (length setup.procs.items) p [] [] known

  pub rules_open : (operations : List (List Op)) (order : List ℕ) → KeepsRules (trace_of setup operations order) → KeepsRules (open_trace (second_of setup))
  rules_open operations order rules = record {
    version = (omega arith, omega arith);
    ceiling = rules.ceiling;
    directory = rules.directory;
    directory_fits = rules.directory_fits;
    types = rules.types;
    fields = rules.fields;
    limit_count = rules.limit_count;
    processes = rules.processes;
    some_process = rules.some_process;
    shared = rules.shared;
    limits = record {
      tree = rules.limits.tree;
      root = rules.limits.root;
      rooted = rules.limits.rooted;
      limited = rules.limits.limited;
      fits = rules.limits.fits;
      small = rules.limits.small;
    };
    operations = record {
      each = length-replicate (length setup.procs.items) [];
      in_range = λ p known. subst (λ ops. IsTrue (list_all (in_range (open_trace (second_of setup))) ops)) (sym (nothing p known)) refl;
      spelled = λ p known. subst (λ ops. IsTrue (list_all is_spelled ops)) (sym (nothing p known)) refl;
      of_version = λ p known. subst (λ ops. IsTrue (list_all (is_of_version 2) ops)) (sym (nothing p known)) refl;
      ends = λ p known. subst EndsWithExit (sym (nothing p known)) none_ends;
      ordered = refl;
      counted = λ p known. ap length (sym (nothing p known));
      room = zero-le;
    };
  }

-- the terms for which a host is read
abbrev pub terms_of : ReadTrace → TypeId → ℕ → Rooms → Terms
terms_of t ty bodies rooms = record { setup = second_of t.setup; names = t.names; ty = ty; bodies = bodies; rooms = rooms }

module _ (bytes : Text) (t : ReadTrace) (ty : TypeId) (bodies : ℕ) (rooms : Rooms) (spelled : Spells bytes (meaning_of t)) where
  pub read_made : (r : Result HostValue OpenError) → IfOk r (λ host. IsFresh (basis_of (terms_of t ty bodies rooms)) bodies host) → OnOk r (AreFit (second_of t.setup) ty rooms) →
      IfOk r (λ host. HasRead bytes ty bodies rooms host)
  read_made (Ok host) fresh fit = record { said = meaning_of t; spelled = spelled; fit = record { known = fit.known; few = fit.few; enough = fit.enough }; fresh = fresh }
  read_made (Err why) fresh fit = tt

  pub read_refused : (r : Result HostValue OpenError) → IfErr r (λ why. IsNotMade (terms_of t ty bodies rooms) why) → IfErr r (λ why. IsNotRead bytes ty rooms why)
  read_refused (Ok host) why = tt
  read_refused (Err (NoMemory refused)) why = tt
  read_refused (Err (Bad line reason)) why = absurd why
  read_refused (Err Unfit) why = record { said = meaning_of t; spelled = spelled; unfit = λ fit. why (record { known = fit.known; few = fit.few; enough = fit.enough }) }

-- where nothing has happened yet one event of each process can be unpublished
pub first_few : (terms : Terms) (parts : Parts) → AreFirstParts terms parts → 1 ≤ terms.rooms.tail → HaveTailRoom (basis_of terms) parts.guests.items
first_few terms parts are some = λ k g found. let none = ap length (are.first k g found).settled in omega (arith, none, some)
