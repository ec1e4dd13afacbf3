-- The code of a call gives a timer its inputs, and runs it.
use Rattle.std.proofs.Common.{◌≡◌, ℕ, ◌<◌, List, [], ◌∷◌, ◌++◌, length, Option, Some, None, refl}
use Rattle.std.specs.Prelude.{slice_set}
use Rattle.il_text.specs.declared.program.Input.{Input}
use Rattle.il_text.specs.declared.program.Input.TheVariants.{In, Pt}
use Rattle.il_image.specs.Timers.{after_call}
use Rattle.il_image.specs.Values.{type_of}
use Rattle.il_image.specs.declared.instr.Instr.{Instr}
use Rattle.il_image.specs.declared.instr.Instr.TheVariants.{Timer}
use Rattle.il_image.specs.declared.opcode.TimerUse.TheVariants.{Run}
use Rattle.il_image.specs.declared.timer.TimerState.{TimerState}
use Rattle.il_image.specs.declared.value.Value.{Value}
use Rattle.il_image.specs.declared.value.Value.TheVariants.{Truth, Short, Long, Wide, Span}
use Rattle.il_image.specs.Machine.{most_cells}
use Rattle.il_check.specs.Program.{Checked}
use Rattle.il_check.specs.Rules as rules
use Rattle.il_check.specs.TypedProgram.{IsArgument, AreArguments}
use Rattle.il_check.specs.declared.typed.TypedArgument.{TypedArgument}
use Rattle.il_check.specs.declared.typed.TypedArguments.{TypedArguments}
use Rattle.il_check.specs.declared.typed.TypedArguments.TheVariants as arguments
use Rattle.il_compile.specs.Code.{argument_code, arguments_code}
use Rattle.il_compile.specs.Correct.{HasTypes}
use Rattle.il_compile.specs.Meaning.{Memory, State, timer_with_input, with_argument, with_arguments, run_timer}
use Rattle.il_compile.proofs.Memories.{flat, timer-there, timer-changed}
use Rattle.il_compile.proofs.Straight.{DoesAll, both, alone, gave, ran}
use Rattle.il_compile.proofs.Entries.{holding, bound, operand-does}

-- an input takes a value of its type
record Takes (i : Input) (v : Value) (t : TimerState) : Type 0 where
  new : TimerState
  is : timer_with_input i v t ≡ Some new
  kind : new.kind ≡ t.kind

takes : (i : Input) (v : Value) (t : TimerState) → type_of v ≡ rules.input_type i → Takes i v t
takes In (Truth b) t e = record { new = record t { input = b }; is = refl; kind = refl }
takes Pt (Span n) t e = record { new = record t { preset = n }; is = refl; kind = refl }
takes i v t e = absurd cc

module _ (c : Checked) (now : ℕ) (n : ℕ) (below : n < length c.timers) where
  -- what code leaves of a memory, with the same cells
  record Leaves (code : List Instr) (cells : List Value) (m : Memory) (meant : Option Memory)
      : Type 0 where
    after : Memory
    is : meant ≡ Some after
    typed : HasTypes c after
    does : DoesAll now code (holding cells m) (holding cells after)

  argument-does : (a : TypedArgument) (cells : List Value) (m : Memory) → IsArgument c a
      → HasTypes c m → length cells < most_cells
      → Leaves (argument_code (length c.externals) n a) cells m (with_argument n a m)
  argument-does a cells m ok ty lt =
      let f = operand-does c now a.operand (rules.input_type a.input) m cells ty ok lt in
      let t = timer-there c m n ty below in
      let g = takes a.input f.value t.0 f.type in
      record {
        after = record m { timers = slice_set m.timers n g.new };
        is = bound _ f.value _ _ f.is (bound _ t.0 _ _ t.1 (bound _ g.new _ _ g.is refl));
        typed = timer-changed c m n t.0 g.new ty t.1 g.kind;
        does = (
          _,
          f.does,
          (
            _,
            gave now (flat m) m.timers n a.input f.value t.0 g.new cells t.1
                g.is,
            refl,
          ),
        );
      }

  arguments-do : (args : TypedArguments) (cells : List Value) (m : Memory) → AreArguments c args
      → HasTypes c m → length cells < most_cells
      → Leaves (arguments_code (length c.externals) n args) cells m (with_arguments n args m)
  arguments-do arguments.None cells m ok ty lt =
      record { after = m; is = refl; typed = ty; does = refl }
  arguments-do (arguments.One a) cells m ok ty lt = argument-does a cells m ok ty lt
  arguments-do (arguments.Two a b) cells m ok ty lt =
      let f = argument-does a cells m ok.0 ty lt in
      let g = argument-does b cells f.after ok.1 f.typed lt in
      record {
        after = g.after;
        is = bound _ f.after _ _ f.is g.is;
        typed = g.typed;
        does = both now (argument_code (length c.externals) n a)
            (argument_code (length c.externals) n b) _ _ _ f.does g.does;
      }

  -- a call, after which the result is not set
  pub record Calls (args : TypedArguments) (cells : List Value) (s : State) : Type 0 where
    pub after : Memory
    pub is : run_timer now n args s ≡ Some (record { result = None; memory = after })
    pub typed : HasTypes c after
    pub does : DoesAll now (arguments_code (length c.externals) n args ++ Timer Run n ∷ [])
        (holding cells s.memory) (holding cells after)

  pub call-does : (args : TypedArguments) (cells : List Value) (s : State) → AreArguments c args
      → HasTypes c s.memory → length cells < most_cells → Calls args cells s
  call-does args cells s ok ty lt =
      let f = arguments-do args cells s.memory ok ty lt in
      let t = timer-there c f.after n f.typed below in
      record {
        after = record f.after { timers = slice_set f.after.timers n (after_call t.0 now) };
        is = bound _ f.after _ _ f.is
            (bound _ (record f.after { timers = slice_set f.after.timers n (after_call t.0 now) }) _
            _
            (bound _ t.0 _ _ t.1 refl) refl);
        typed = timer-changed c f.after n t.0 (after_call t.0 now) f.typed t.1 refl;
        does = both now (arguments_code (length c.externals) n args) (Timer Run n ∷ []) _ _ _ f.does
            (alone now _ _ _ (ran now (flat f.after) f.after.timers n t.0 cells t.1));
      }
