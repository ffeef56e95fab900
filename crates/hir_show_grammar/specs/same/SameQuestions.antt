-- That `==` of questions decides whether they are the same, variant by variant.
use Rattle.std.specs.Prelude.{◌≡◌}
use Rattle.std.specs.Bool.{Decides}
use Rattle.std.specs.Cmp.{unsigned_Decides}
use Rattle.hir_collections.specs.Exact.{exact}
use Rattle.hir_collections.specs.Variants.{values_decide, then, also, last}
use Rattle.hir_path.specs.same.Leaves.{names_decide}
use Rattle.hir_node.specs.same.Leaves.{hygienes_decide}
use Rattle.hir_show_grammar.specs.declared.question.BodyQuestion.{BodyQuestion}
use Rattle.hir_show_grammar.specs.declared.question.Question.{Question}
use Rattle.hir_show_grammar.specs.contracts.question.BodyQuestion as of_body
use Rattle.hir_show_grammar.specs.contracts.question.BodyQuestionPartialEq.TheImpl as body_question
use Rattle.hir_show_grammar.specs.contracts.question.Question as questions
use Rattle.hir_show_grammar.specs.contracts.question.QuestionPartialEq.TheImpl as question

pub body_questions_decide : (x y : BodyQuestion) → Decides (body_question.ghosts.eq x y) (x ≡ y)
body_questions_decide x y = values_decide of_body.enum x y (
    (then _ _ (λ a b. search exact)
    (then _ _ (also _ _ unsigned_Decides (also _ _ names_decide (last _ hygienes_decide)))
    (then _ _ (λ a b. search exact)
    (then _ _ (λ a b. search exact)
    (λ c d. absurd c))))) _ _)

pub questions_decide : (x y : Question) → Decides (question.ghosts.eq x y) (x ≡ y)
questions_decide x y = values_decide questions.enum x y (
    (then _ _ (λ a b. search exact)
    (then _ _ (last _ body_questions_decide)
    (λ c d. absurd c))) _ _)
