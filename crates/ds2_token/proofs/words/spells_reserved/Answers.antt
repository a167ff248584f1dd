use Rattle.std.proofs.Common.{◌∙◌, refl, codes, [], ◌∷◌}
use Rattle.ds2_token.proofs.ReservedWords.{words_from}
use Rattle.ds2_token.proofs.words.spells_reserved.Goals as goal

pub returns-in-97 : goal.returns-in-97
returns-in-97 c =
    c.spells_one_of.ensures ∙ words_from 97 (codes "and" ∷ []) (λ rest. refl) c.args.letters.now c.to_ascii_lowercase.result c.in-len1-up.len_at_least c.to_ascii_lowercase.ensures.value c.in-97.is

pub returns-in-98 : goal.returns-in-98
returns-in-98 c =
    c.spells_one_of-in-98.ensures ∙ words_from 98 (codes "bigint" ∷ codes "by" ∷ []) (λ rest. refl) c.args.letters.now c.to_ascii_lowercase.result c.in-len1-up.len_at_least c.to_ascii_lowercase.ensures.value c.in-98.is

pub returns-in-99 : goal.returns-in-99
returns-in-99 c =
    c.spells_one_of-in-99.ensures ∙ words_from 99 (codes "char" ∷ codes "continue" ∷ []) (λ rest. refl) c.args.letters.now c.to_ascii_lowercase.result c.in-len1-up.len_at_least c.to_ascii_lowercase.ensures.value c.in-99.is

pub returns-in-100 : goal.returns-in-100
returns-in-100 c =
    c.spells_one_of-in-100.ensures ∙ words_from 100 (codes "data" ∷ codes "dcl" ∷ codes "decimal" ∷ codes "declare" ∷ codes "descending" ∷ codes "do" ∷ codes "drop" ∷ []) (λ rest. refl) c.args.letters.now c.to_ascii_lowercase.result c.in-len1-up.len_at_least c.to_ascii_lowercase.ensures.value c.in-100.is

pub returns-in-101 : goal.returns-in-101
returns-in-101 c =
    c.spells_one_of-in-101.ensures ∙ words_from 101 (codes "else" ∷ codes "end" ∷ codes "enddata" ∷ codes "endpackage" ∷ codes "endthread" ∷ codes "eq" ∷ []) (λ rest. refl) c.args.letters.now c.to_ascii_lowercase.result c.in-len1-up.len_at_least c.to_ascii_lowercase.ensures.value c.in-101.is

pub returns-in-102 : goal.returns-in-102
returns-in-102 c =
    c.spells_one_of-in-102.ensures ∙ words_from 102 (codes "from" ∷ []) (λ rest. refl) c.args.letters.now c.to_ascii_lowercase.result c.in-len1-up.len_at_least c.to_ascii_lowercase.ensures.value c.in-102.is

pub returns-in-103 : goal.returns-in-103
returns-in-103 c =
    c.spells_one_of-in-103.ensures ∙ words_from 103 (codes "ge" ∷ codes "gt" ∷ []) (λ rest. refl) c.args.letters.now c.to_ascii_lowercase.result c.in-len1-up.len_at_least c.to_ascii_lowercase.ensures.value c.in-103.is

pub returns-in-105 : goal.returns-in-105
returns-in-105 c =
    c.spells_one_of-in-105.ensures ∙ words_from 105 (codes "if" ∷ codes "in_out" ∷ []) (λ rest. refl) c.args.letters.now c.to_ascii_lowercase.result c.in-len1-up.len_at_least c.to_ascii_lowercase.ensures.value c.in-105.is

pub returns-in-107 : goal.returns-in-107
returns-in-107 c =
    c.spells_one_of-in-107.ensures ∙ words_from 107 (codes "keep" ∷ []) (λ rest. refl) c.args.letters.now c.to_ascii_lowercase.result c.in-len1-up.len_at_least c.to_ascii_lowercase.ensures.value c.in-107.is

pub returns-in-108 : goal.returns-in-108
returns-in-108 c =
    c.spells_one_of-in-108.ensures ∙ words_from 108 (codes "le" ∷ codes "leave" ∷ codes "lt" ∷ []) (λ rest. refl) c.args.letters.now c.to_ascii_lowercase.result c.in-len1-up.len_at_least c.to_ascii_lowercase.ensures.value c.in-108.is

pub returns-in-109 : goal.returns-in-109
returns-in-109 c =
    c.spells_one_of-in-109.ensures ∙ words_from 109 (codes "merge" ∷ codes "method" ∷ []) (λ rest. refl) c.args.letters.now c.to_ascii_lowercase.result c.in-len1-up.len_at_least c.to_ascii_lowercase.ensures.value c.in-109.is

pub returns-in-110 : goal.returns-in-110
returns-in-110 c =
    c.spells_one_of-in-110.ensures ∙ words_from 110 (codes "ne" ∷ codes "not" ∷ codes "null" ∷ codes "numeric" ∷ []) (λ rest. refl) c.args.letters.now c.to_ascii_lowercase.result c.in-len1-up.len_at_least c.to_ascii_lowercase.ensures.value c.in-110.is

pub returns-in-111 : goal.returns-in-111
returns-in-111 c =
    c.spells_one_of-in-111.ensures ∙ words_from 111 (codes "or" ∷ codes "otherwise" ∷ codes "output" ∷ []) (λ rest. refl) c.args.letters.now c.to_ascii_lowercase.result c.in-len1-up.len_at_least c.to_ascii_lowercase.ensures.value c.in-111.is

pub returns-in-112 : goal.returns-in-112
returns-in-112 c =
    c.spells_one_of-in-112.ensures ∙ words_from 112 (codes "package" ∷ codes "put" ∷ []) (λ rest. refl) c.args.letters.now c.to_ascii_lowercase.result c.in-len1-up.len_at_least c.to_ascii_lowercase.ensures.value c.in-112.is

pub returns-in-114 : goal.returns-in-114
returns-in-114 c =
    c.spells_one_of-in-114.ensures ∙ words_from 114 (codes "retain" ∷ codes "return" ∷ codes "returns" ∷ []) (λ rest. refl) c.args.letters.now c.to_ascii_lowercase.result c.in-len1-up.len_at_least c.to_ascii_lowercase.ensures.value c.in-114.is

pub returns-in-115 : goal.returns-in-115
returns-in-115 c =
    c.spells_one_of-in-115.ensures ∙ words_from 115 (codes "select" ∷ codes "set" ∷ []) (λ rest. refl) c.args.letters.now c.to_ascii_lowercase.result c.in-len1-up.len_at_least c.to_ascii_lowercase.ensures.value c.in-115.is

pub returns-in-116 : goal.returns-in-116
returns-in-116 c =
    c.spells_one_of-in-116.ensures ∙ words_from 116 (codes "then" ∷ codes "thread" ∷ codes "to" ∷ []) (λ rest. refl) c.args.letters.now c.to_ascii_lowercase.result c.in-len1-up.len_at_least c.to_ascii_lowercase.ensures.value c.in-116.is

pub returns-in-117 : goal.returns-in-117
returns-in-117 c =
    c.spells_one_of-in-117.ensures ∙ words_from 117 (codes "until" ∷ []) (λ rest. refl) c.args.letters.now c.to_ascii_lowercase.result c.in-len1-up.len_at_least c.to_ascii_lowercase.ensures.value c.in-117.is

pub returns-in-118 : goal.returns-in-118
returns-in-118 c =
    c.spells_one_of-in-118.ensures ∙ words_from 118 (codes "varchar" ∷ []) (λ rest. refl) c.args.letters.now c.to_ascii_lowercase.result c.in-len1-up.len_at_least c.to_ascii_lowercase.ensures.value c.in-118.is

pub returns-in-119 : goal.returns-in-119
returns-in-119 c =
    c.spells_one_of-in-119.ensures ∙ words_from 119 (codes "when" ∷ codes "while" ∷ []) (λ rest. refl) c.args.letters.now c.to_ascii_lowercase.result c.in-len1-up.len_at_least c.to_ascii_lowercase.ensures.value c.in-119.is
