-- A head without where its bytes lie.
use Rattle.conf_lexer.specs.declared.heads.Head.{Head}
use Rattle.conf_lexer.specs.declared.heads.Head.TheVariants.{Blank, Line}
use Rattle.conf_rules.specs.Heads.{Heading, Comment, Says}

-- what a head says of its line
abbrev pub heading : Head → Heading
heading Blank = Comment
heading (Line keyword rest) = Says keyword.now rest.now
